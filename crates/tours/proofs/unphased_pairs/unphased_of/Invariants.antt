use Rattle.std.proofs.Common.{if◌then◌else◌}
use Rattle.league.proofs.ForCallers.{IsSumWithout}
use Rattle.tours.specs.Phased.{is_unphased}
use Rattle.tours.proofs.unphased_pairs.unphased_of.Given as goal

abbrev pub invariant-loop-low : goal.invariant-loop-low
invariant-loop-low l = IsSumWithout l.team l.fn.lower l.low-iterator l.total 1 (λ low. if is_unphased l.schedule low l.team then 1 else 0)
