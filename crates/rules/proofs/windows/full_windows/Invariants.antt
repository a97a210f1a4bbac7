use Rattle.rules.proofs.rows.FullWindows.{HasFull}
use Rattle.rules.proofs.windows.full_windows.Given as goal

abbrev pub invariant-loop : goal.invariant-loop
invariant-loop l = HasFull l.fn.set l.fn.starts l.counter l.full l.nearly l.next
