use Rattle.std.proofs.Common.{codes}
use Rattle.byte_streams.proofs.Pieces.{Adds-stops, Adds-then, Adds-writes, Stops-more, Stops-writes}
use Rattle.byte_streams.specs.Pieces.{pieces_below}
use Rattle.text_lines.specs.Sheet.{game_text}
use Rattle.text_lines.proofs.sheets.write_round.Goals as goal

pub returns-in_err-write_label : goal.returns-in_err-write_label
returns-in_err-write_label g c =
    Stops-writes c.from_residual.ensures.0
    (Stops-more (codes "\n") (Stops-more (pieces_below (game_text c.args.schedule.now c.args.round) c.args.schedule.now.teams)
    c.in_err-write_label.ensures.err))

pub returns-in_err-write_games : goal.returns-in_err-write_games
returns-in_err-write_games g c =
    Stops-writes c.from_residual-in_err-write_games.ensures.0
    (Stops-more (codes "\n") (Adds-stops c.in_ok-write_label.ensures.ok c.in_err-write_games.ensures.err))

pub returns : goal.returns
returns g c = Adds-writes (Adds-then c.in_ok-write_label.ensures.ok c.in_ok-write_games.ensures.ok) c.write.ensures.writes
