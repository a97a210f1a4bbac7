use Rattle.byte_streams.proofs.Pieces.{Adds-piece, Stops-in_pieces, Stops-writes}
use Rattle.report_text.specs.within.CostText.{run_lines}
use Rattle.report_text.proofs.runs.write_runs.Goals as goal

pub loop-team-preserved : goal.loop-team-preserved
loop-team-preserved g c =
    Adds-piece (run_lines c.args.schedule.now c.args.at_most) c.loop-team.team c.loop-team.invariant c.in_ok-write_runs_of.ensures.ok

pub returns-in_err-write_runs_of : goal.returns-in_err-write_runs_of
returns-in_err-write_runs_of g c =
    Stops-writes c.from_residual.ensures.0
    (Stops-in_pieces (run_lines c.args.schedule.now c.args.at_most) c.loop-team.team _
    (rw c.teams-team-end.ensures.number at c.loop-team-test.true) c.loop-team.invariant c.in_err-write_runs_of.ensures.err)
