use Rattle.std.proofs.Common.{◌≡◌, ℕ, true, length}
use Rattle.league.specs.Limits.{max_rules}
use Rattle.league.specs.Sets.{has, IsBelow}
use Rattle.costs.proofs.KeptDeviations.{KeptWithout}
use Rattle.costs.proofs.kept_deviations.KeptDeviations.keep.Given as goal

abbrev pub invariant-loop-i : goal.invariant-loop-i
invariant-loop-i l = record {
  below : IsBelow max_rules l.i-iterator;
  known : l.self.is_known ≡ l.fn.self.is_known;
  next : l.self.next ≡ l.fn.self.next;
  kept_length : length l.self.kept ≡ max_rules;
  kept : KeptWithout l.fn.rules l.i-iterator l.fn.self.next l.fn.self.kept l.self.kept;
  within : (i : ℕ) → has l.i-iterator i ≡ true → has l.fn.rules i ≡ true;
}
