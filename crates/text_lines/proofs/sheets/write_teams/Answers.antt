use Rattle.byte_streams.proofs.Pieces.{Adds-piece, Stops-in_pieces, Stops-writes}
use Rattle.text_lines.specs.Sheet.{team_line}
use Rattle.text_lines.proofs.sheets.write_teams.Goals as goal

pub loop-team-preserved : goal.loop-team-preserved
loop-team-preserved g c = Adds-piece
    (team_line c.args.schedule.now c.args.league.now) c.loop-team.team c.loop-team.invariant c.in_ok-write_team.ensures.ok

pub returns-in_err-write_team : goal.returns-in_err-write_team
returns-in_err-write_team g c =
    Stops-writes c.from_residual.ensures.0
    (Stops-in_pieces (team_line c.args.schedule.now c.args.league.now) c.loop-team.team _
    (rw c.teams-team-end.ensures.number at c.loop-team-test.true) c.loop-team.invariant c.in_err-write_team.ensures.err)
