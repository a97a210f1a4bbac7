use Rattle.byte_streams.specs.Pieces.{pieces_below}
use Rattle.byte_streams.specs.Writing.{Adds}
use Rattle.report_text.specs.within.CostText.{run_lines}
use Rattle.report_text.proofs.runs.write_runs.Given as goal

abbrev pub invariant-loop-team : goal.invariant-loop-team
invariant-loop-team g l = Adds g.W.Sink.held g.W.Sink.tally l.initial.out l.out (pieces_below (run_lines l.schedule l.at_most) l.team)
