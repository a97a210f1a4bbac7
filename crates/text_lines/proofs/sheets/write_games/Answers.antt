use Rattle.byte_streams.proofs.Pieces.{Adds-piece, Stops-in_pieces, Stops-writes}
use Rattle.text_lines.specs.Sheet.{game_text}
use Rattle.text_lines.proofs.sheets.write_games.Goals as goal

pub loop-team-preserved : goal.loop-team-preserved
loop-team-preserved g c = Adds-piece
    (game_text c.args.schedule.now c.args.round) c.loop-team.team c.loop-team.invariant c.in_ok-write_game.ensures.ok

pub returns-in_err-write_game : goal.returns-in_err-write_game
returns-in_err-write_game g c =
    Stops-writes c.from_residual.ensures.0
    (Stops-in_pieces (game_text c.args.schedule.now c.args.round) c.loop-team.team _
    (rw c.teams-team-end.ensures.number at c.loop-team-test.true) c.loop-team.invariant c.in_err-write_game.ensures.err)
