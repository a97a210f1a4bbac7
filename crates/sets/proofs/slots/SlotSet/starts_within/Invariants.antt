use Rattle.std.proofs.Common.{◌≡◌, ℕ, ◌+◌, ◌≤◌}
use Rattle.sets.specs.Sums.{all_below}
use Rattle.sets.specs.Limits.{max_rounds}
use Rattle.sets.specs.Sets.{has, IsBelow}
use Rattle.sets.proofs.slots.SlotSet.starts_within.Given as goal

abbrev pub invariant-loop : goal.invariant-loop
invariant-loop l = record {
  some : 1 ≤ l.counter;
  members : (s : ℕ) → has l.starts s ≡ all_below l.counter (λ k. has l.fn.self (s + k));
  fits : IsBelow max_rounds l.starts;
  below : (m : ℕ) → IsBelow m l.fn.self → IsBelow m l.starts;
}
