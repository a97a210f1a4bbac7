use Rattle.byte_streams.proofs.Pieces.{Adds-piece, Stops-in_pieces, Stops-writes}
use Rattle.report_text.specs.within.CostText.{repeat_line}
use Rattle.report_text.proofs.cost_text.write_repeats_after.Goals as goal

pub loop-team-preserved : goal.loop-team-preserved
loop-team-preserved g c =
    Adds-piece (repeat_line c.args.schedule.now c.args.round) c.loop-team.team c.loop-team.invariant c.in_ok-write_repeat.ensures.ok

pub returns-in_err-write_repeat : goal.returns-in_err-write_repeat
returns-in_err-write_repeat g c =
    Stops-writes c.from_residual.ensures.0
    (Stops-in_pieces (repeat_line c.args.schedule.now c.args.round) c.loop-team.team _
    (rw c.teams-team-end.ensures.number at c.loop-team-test.true) c.loop-team.invariant c.in_err-write_repeat.ensures.err)
