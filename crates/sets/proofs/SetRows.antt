-- The numbers from which on those of a row are in a set, found for one more in each row by a shift of what was found.
use Rattle.std.proofs.Common.{◌≡◌, ℕ, zero, suc, ◌+◌, ◌/◌, ◌^◌, ◌≤◌, ◌&&◌, ◌||◌, bit_and, bit_or, Bool, true, false}
use Rattle.std.proofs.Common.{refl, sym, ◌∙◌, ap, arith}
use Rattle.std.proofs.lemmas.Bool.{true≢false}
use Rattle.sets.specs.Sums.{all_below, any_below}
use Rattle.sets.specs.Sets.{has}
use Rattle.sets.proofs.Sums.{all_below_none, all_below_more, any_below_none, any_below_more}
use Rattle.sets.proofs.SetBits.{has_intersection, has_union, has_shifted}

-- all in a row of k + 1 pass, and all in the row that begins one later: so do all in a row of k + 2
all_of_both : (k : ℕ) (test later : ℕ → Bool) → ((j : ℕ) → later j ≡ test (suc j))
    → (all_below (suc k) test && all_below (suc k) later) ≡ all_below (suc (suc k)) test
unfolding all_below
all_of_both zero test later is = ap (λ b. test 0 && b) (is 0)
all_of_both (suc k) test later is =
    ap (λ b. all_below (suc k) test && test (suc k) && (all_below (suc k) later && b)) (is (suc k))
    ∙ same_of_both (all_below (suc k) test) (all_below (suc k) later) (test (suc k)) (test (suc (suc k)))
    (all_of_both k test later is)
  where
    same_of_both : (a b c d : Bool) → (a && b) ≡ (a && c) → (a && c && (b && d)) ≡ (a && c && d)
    same_of_both true true true d e = refl
    same_of_both true true false d e = refl
    same_of_both true false true d e = absurd (true≢false (sym e))
    same_of_both true false false d e = refl
    same_of_both false b c d e = refl

any_of_both : (k : ℕ) (test later : ℕ → Bool) → ((j : ℕ) → later j ≡ test (suc j))
    → (any_below (suc k) test || any_below (suc k) later) ≡ any_below (suc (suc k)) test
unfolding any_below
any_of_both zero test later is = ap (λ b. test 0 || b) (is 0)
any_of_both (suc k) test later is =
    ap (λ b. any_below (suc k) test || test (suc k) || (any_below (suc k) later || b)) (is (suc k))
    ∙ same_of_both (any_below (suc k) test) (any_below (suc k) later) (test (suc k)) (test (suc (suc k)))
    (any_of_both k test later is)
  where
    same_of_both : (a b c d : Bool) → (a || b) ≡ (a || c) → (a || c || (b || d)) ≡ (a || c || d)
    same_of_both false false false d e = refl
    same_of_both false false true d e = absurd (true≢false (sym e))
    same_of_both false true true d e = refl
    same_of_both false true false d e = absurd (true≢false e)
    same_of_both true b c d e = refl

-- a row of one
pub has_row_of_one : (set s : ℕ) → has set s ≡ all_below 1 (λ k. has set (s + k))
has_row_of_one set s =
    let passes = λ (k : ℕ). has set (s + k) in
    sym (all_below_more 0 passes ∙ ap (λ b. b && passes 0) (all_below_none passes) ∙ ap (has set) (omega arith))

pub has_one_of_row : (set s : ℕ) → has set s ≡ any_below 1 (λ k. has set (s + k))
has_one_of_row set s =
    let passes = λ (k : ℕ). has set (s + k) in
    sym (any_below_more 0 passes ∙ ap (λ b. b || passes 0) (any_below_none passes) ∙ ap (has set) (omega arith))

-- a row one longer
pub has_longer_row : (set starts k s : ℕ) → 1 ≤ k
    → ((t : ℕ) → has starts t ≡ all_below k (λ j. has set (t + j)))
    → has (bit_and starts (starts / 2 ^ 1)) s ≡ all_below (k + 1) (λ j. has set (s + j))
has_longer_row set starts zero s some so_far = absurd (omega arith)
has_longer_row set starts (suc k) s some so_far =
    has_intersection starts (starts / 2 ^ 1) s ∙ ap (λ b. has starts s && b) (has_shifted starts 1 s ∙ so_far (s + 1))
    ∙ ap (λ b. b && all_below (suc k) (λ j. has set (s + 1 + j))) (so_far s)
    ∙ all_of_both k (λ j. has set (s + j)) (λ j. has set (s + 1 + j)) (λ j. ap (has set) (omega arith))
    ∙ ap (λ n. all_below n (λ j. has set (s + j))) (omega arith)

pub has_one_of_longer_row : (set starts k s : ℕ) → 1 ≤ k
    → ((t : ℕ) → has starts t ≡ any_below k (λ j. has set (t + j)))
    → has (bit_or starts (starts / 2 ^ 1)) s ≡ any_below (k + 1) (λ j. has set (s + j))
has_one_of_longer_row set starts zero s some so_far = absurd (omega arith)
has_one_of_longer_row set starts (suc k) s some so_far =
    has_union starts (starts / 2 ^ 1) s ∙ ap (λ b. has starts s || b) (has_shifted starts 1 s ∙ so_far (s + 1))
    ∙ ap (λ b. b || any_below (suc k) (λ j. has set (s + 1 + j))) (so_far s)
    ∙ any_of_both k (λ j. has set (s + j)) (λ j. has set (s + 1 + j)) (λ j. ap (has set) (omega arith))
    ∙ ap (λ n. any_below n (λ j. has set (s + j))) (omega arith)
