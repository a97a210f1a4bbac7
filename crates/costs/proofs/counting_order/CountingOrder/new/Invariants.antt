use Rattle.rule_index.proofs.ForCallers.{IsCollected}
use Rattle.costs.specs.Evaluators.{is_at}
use Rattle.costs.proofs.CountingOrders.{is_first, is_next, is_last}
use Rattle.costs.proofs.counting_order.CountingOrder.new.Given as goal

abbrev pub invariant-loop-i : goal.invariant-loop-i
invariant-loop-i l = record {
  hard : IsCollected (is_at l.league.rules is_first) l.i l.first;
  soft : IsCollected (is_at l.league.rules is_next) l.i l.next;
  slow : IsCollected (is_at l.league.rules is_last) l.i l.last;
}
