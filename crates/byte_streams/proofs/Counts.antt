-- Lemmas on the counts of a `Tally`.
use Rattle.std.proofs.Common.{◌≡◌, ℕ, ◌+◌, ◌-◌, ◌*◌, ◌<◌, ◌≤◌, inl, inr, arith}
use Rattle.std.specs.Prelude.{◌==◌, if◌then◌else◌}
use Rattle.std.proofs.lemmas.Bool.Decides.{nat_tests}
use Rattle.byte_streams.specs.declared.tally.Tally.{Tally}
use Rattle.byte_streams.specs.declared.ends.Step.{Step}
use Rattle.byte_streams.specs.declared.ends.Step.TheVariants.{Moved, Again, Failed}
use Rattle.byte_streams.specs.Tally.{one_more, noted, RisesBy, NotBelow, FailsWriting}

one_more-ge : (n : ℕ) → n ≤ one_more n
one_more-ge n = grind (arith, nat_tests)

one_more-le : (n : ℕ) → one_more n ≤ n + 1
one_more-le n = grind (arith, nat_tests)

-- a write that moved some bytes: the calls that were allowed for these are more than those that were made
pub calls_moved : (calls start whole interrupted rest n : ℕ) → (n ≡ 0 → ⊥) → n ≤ rest → interrupted < 1000 →
    calls + 1000 * rest ≤ start + 1000 * whole + interrupted
    → one_more calls + 1000 * (rest - n) ≤ start + 1000 * whole + 0
calls_moved calls start whole interrupted rest n some fits few made =
    let counted = one_more-le calls in
    let positive : 0 < n = grind (arith, some) in
    omega (arith, counted, positive, fits, few, made)

-- it is no empty one
pub empty_moved : (n failed empty total : ℕ) → (n ≡ 0 → ⊥) → failed + empty ≡ total →
    failed + (if n == 0 then one_more empty else empty) ≡ total
empty_moved n failed empty total some e = grind (arith, nat_tests, some, e)

pub NotBelow-refl : (t : Tally) → NotBelow t t
NotBelow-refl t = record { calls = omega arith; failed = omega arith; empty = omega arith; again = omega arith }

pub NotBelow-trans : (a b c : Tally) → NotBelow a b → NotBelow b c → NotBelow a c
NotBelow-trans a b c p q = record { calls = omega arith; failed = omega arith; empty = omega arith; again = omega arith }

NotBelow-noted : (t : Tally) (s : Step) → NotBelow t (noted t s)
NotBelow-noted t (Moved n) = record
    { calls = one_more-ge t.calls; failed = omega arith; empty = grind (arith, nat_tests); again = omega arith }
NotBelow-noted t Again = record { calls = one_more-ge t.calls; failed = omega arith; empty = omega arith; again = one_more-ge t.again }
NotBelow-noted t Failed = record { calls = one_more-ge t.calls; failed = one_more-ge t.failed; empty = omega arith; again = omega arith }

-- no count fell, and then one more call was made
pub NotBelow-call : (a b c : Tally) (s : Step) → NotBelow a b → c ≡ noted b s → NotBelow a c
NotBelow-call a b c s p e = rw e (NotBelow-trans a b (noted b s) p (NotBelow-noted b s))

-- a rise since a count is one since any lower count
RisesBy-after : (n a b c : ℕ) → a ≤ b → RisesBy n b c → RisesBy n a c
RisesBy-after n a b c p (inl q) = inl (omega arith)
RisesBy-after n a b c p (inr q) = inr q

pub FailsWriting-after : (most : ℕ) (a b c : Tally) → NotBelow a b → FailsWriting most b c → FailsWriting most a c
FailsWriting-after most a b c p (inl q) = inl (RisesBy-after 1 a.failed b.failed c.failed p.failed q)
FailsWriting-after most a b c p (inr (inl q)) = inr (inl (RisesBy-after 1 a.empty b.empty c.empty p.empty q))
FailsWriting-after most a b c p (inr (inr q)) = inr (inr (q.0, RisesBy-after most a.again b.again c.again p.again q.1))
