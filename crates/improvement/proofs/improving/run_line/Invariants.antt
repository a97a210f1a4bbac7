use Rattle.std.proofs.Common.{[]}
use Rattle.improvement.specs.within.Lines.{left_in}
use Rattle.improvement.specs.within.UnderWay.{IsUnderWay}
use Rattle.improvement.proofs.improving.run_line.Given as goal

abbrev pub invariant-loop-lent : goal.invariant-loop-lent
invariant-loop-lent g l =
    IsUnderWay g.W.Sink.held g.W.Sink.tally l.setting.start.now l.setting.plan l.initial.out l.out [] l.line l.reported

abbrev pub decreases-loop-lent : goal.decreases-loop-lent
decreases-loop-lent g l = left_in l.line
