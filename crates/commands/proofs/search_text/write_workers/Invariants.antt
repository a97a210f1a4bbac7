use Rattle.std.proofs.Common.{◌+◌, drop}
use Rattle.text_lines.proofs.ForCallers.{AddsAllBut}
use Rattle.commands.specs.Find.{worker_lines}
use Rattle.commands.proofs.search_text.write_workers.Given as goal

abbrev pub invariant-loop-i : goal.invariant-loop-i
invariant-loop-i g l =
    AddsAllBut g.W.Sink.held g.W.Sink.tally l.initial.out l.out (worker_lines 1 l.reports) (worker_lines (l.i + 1) (drop l.i l.reports))
