use Rattle.std.proofs.Common.{drop}
use Rattle.board_texts.specs.PlayText.{change_lines}
use Rattle.text_lines.proofs.ForCallers.{AddsAllBut}
use Rattle.board_texts.proofs.history.write_changes.Given as goal

abbrev pub invariant-loop-i : goal.invariant-loop-i
invariant-loop-i g l =
    AddsAllBut g.W.Sink.held g.W.Sink.tally l.initial.out l.out (change_lines l.board.history) (change_lines (drop l.i l.board.history))
