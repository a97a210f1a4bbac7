use Rattle.std.proofs.Common.{◌≡◌, true, length}
use Rattle.league.specs.Limits.{max_rules}
use Rattle.costs.specs.within.KeptDeviations.{IsKeptOf}
use Rattle.costs.proofs.KeptDeviations.{RestsWithout}
use Rattle.costs.proofs.KnownRests.{IsRestWithout}
use Rattle.costs.proofs.counted.rest_of_known.Given as goal

abbrev pub invariant-loop-i : goal.invariant-loop-i
invariant-loop-i l = record {
  rest : IsRestWithout l.league l.scope l.schedule l.fn.predicted l.fn.halves l.initial.i-iterator l.i-iterator l.rest;
  same : IsKeptOf l.deviations l.fn.deviations;
  next_length : length l.deviations.next ≡ max_rules;
  rests : l.deviations.is_known ≡ true → RestsWithout l.league.rules l.scope l.initial.i-iterator l.i-iterator l.schedule l.deviations.next;
}
