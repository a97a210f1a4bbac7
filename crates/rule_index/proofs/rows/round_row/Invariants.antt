use Rattle.rule_index.specs.Alterable.{passes_at}
use Rattle.rule_index.specs.Index.{looks_in_round}
use Rattle.rule_index.proofs.Collected.{IsCollected}
use Rattle.rule_index.proofs.rows.round_row.Given as goal

abbrev pub invariant-loop-i : goal.invariant-loop-i
invariant-loop-i l = IsCollected (passes_at l.league.rules (looks_in_round l.round)) l.i l.found
