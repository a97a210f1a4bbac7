use Rattle.byte_streams.specs.Pieces.{pieces_below}
use Rattle.byte_streams.specs.Writing.{Adds}
use Rattle.report_text.specs.within.CostText.{run_line}
use Rattle.report_text.specs.Runs.{ended_streak, is_over}
use Rattle.report_text.proofs.runs.write_runs_of.Given as goal

abbrev pub invariant-loop-round : goal.invariant-loop-round
invariant-loop-round g l = Adds g.W.Sink.held g.W.Sink.tally l.initial.out l.out
    (pieces_below (λ round. run_line l.schedule l.at_most l.team round (ended_streak (is_over l.schedule l.at_most l.team) round)) l.round)
