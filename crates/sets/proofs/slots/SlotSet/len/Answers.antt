use Rattle.std.proofs.Common.{◌≡◌, ℕ, ◌-◌, ◌^◌, bit_and, sym, ◌∙◌, ap, subst, arith}
use Rattle.std.proofs.lemmas.Nat.{ones_le_self}
use Rattle.std.specs.Int.RustNames.{count_ones}
use Rattle.sets.specs.Limits.{max_rounds}
use Rattle.sets.specs.Sets.{has, IsBelow}
use Rattle.sets.specs.Sums.{count_where}
use Rattle.sets.proofs.SetBits.{ones_count, ones_of_halves}
use Rattle.sets.proofs.SetWords.{slots_len}
use Rattle.sets.proofs.slots.SlotSet.len.Goals as goal

-- where the high half has none, its bits add nothing
low_alone : (c : goal.Then-high-eq0) → count_ones (bit_and c.self.inside.bits (2 ^ 64 - 1)) ≡ count_ones c.self.inside.bits
low_alone c = omega (arith, ones_of_halves c.self.inside.bits, ap (λ (n : ℕ). count_ones n) c.if-high-eq0.true, ones_le_self 0)

pub returns-then-high-eq0-clause-value : goal.returns-then-high-eq0-clause-value
returns-then-high-eq0-clause-value c =
    low_alone c ∙ ones_count max_rounds c.self.inside.bits c.self.invariant ∙ ap (λ (s : ℕ). count_where max_rounds (has s)) c.self.view_is

pub returns-then-high-eq0-clause-among : goal.returns-then-high-eq0-clause-among
returns-then-high-eq0-clause-among c = λ m below.
    low_alone c ∙ ones_count m c.self.inside.bits (subst (λ (s : ℕ). IsBelow m s) (sym c.self.view_is) below) ∙
    ap (λ (s : ℕ). count_where m (has s)) c.self.view_is

pub returns-clause-value : goal.returns-clause-value
returns-clause-value c =
    ones_of_halves c.self.inside.bits ∙ ones_count max_rounds c.self.inside.bits c.self.invariant ∙
    ap (λ (s : ℕ). count_where max_rounds (has s)) c.self.view_is

pub returns-clause-among : goal.returns-clause-among
returns-clause-among c = λ m below.
    ones_of_halves c.self.inside.bits ∙ ones_count m c.self.inside.bits (subst (λ (s : ℕ). IsBelow m s) (sym c.self.view_is) below) ∙
    ap (λ (s : ℕ). count_where m (has s)) c.self.view_is

pub returns-clause-most : goal.returns-clause-most
returns-clause-most c = omega (arith, ones_of_halves c.self.inside.bits, slots_len c.self.inside.bits c.self.invariant)
