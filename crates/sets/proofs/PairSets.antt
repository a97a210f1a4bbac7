-- A set of pairs of teams as the list of its rows: for each first team the set of the second ones.
use Rattle.std.proofs.Common.{◌≡◌, ◌≢◌, ℕ, ◌<◌, ◌&&◌, ◌||◌, ◌==◌, not, Bool, true, false, List, length}
use Rattle.std.proofs.Common.{slice_set, refl, sym, ◌∙◌, ap, inl, inr, arith}
use Rattle.std.proofs.lemmas.Bool.{cases_eq, cases_lt, eq-eqb, ne_eqb, eqb-true, eqb-false, false≢true}
use Rattle.std.proofs.lemmas.List.{get_or_past, get_or-replicate, get_or-set_same, get_or-set_other, length-replicate}
use Rattle.std.proofs.lemmas.Grind.{same_number_lists}
use Rattle.std.proofs.lemmas.Nat.Bits.{same_from_bits, bit_at-lt}
use Rattle.std.specs.Int.{bit_at}
use Rattle.sets.specs.Limits.{max_teams}
use Rattle.sets.specs.Sets.{has, with_number}
use Rattle.sets.specs.Pairs.{seconds_of, has_pair, no_pairs, with_pair}
use Rattle.sets.specs.within.Pairs.{AreFirsts}
use Rattle.sets.proofs.Bits.{has_with_number}
use Rattle.sets.proofs.WalkedSums.{has_empty}

-- sets with the same members are the same set

same_bit : (a b : ℕ) → a < 2 → b < 2 → (a == 1) ≡ (b == 1) → a ≡ b
same_bit a b a_small b_small same = elim (cases_eq a 1) [
  | inl one ↦ one ∙ sym (eqb-true b 1 (sym same ∙ eq-eqb a 1 one))
  | inr other ↦ zero_bit (eqb-false b 1 (sym same ∙ ne_eqb a 1 other)) other
]
  where
    zero_bit : b ≢ 1 → a ≢ 1 → a ≡ b
    zero_bit b_other a_other = omega arith

pub same_sets : (set other : ℕ) → ((k : ℕ) → has set k ≡ has other k) → set ≡ other
same_sets set other same =
    same_from_bits set other
    (λ k. same_bit (bit_at set k) (bit_at other k) (bit_at-lt set k) (bit_at-lt other k) (same k))

-- the rows

pub has_no_pairs : (f s : ℕ) → has_pair no_pairs f s ≡ false
unfolding has_pair
has_no_pairs f s = elim (cases_lt f max_teams) [
  | inl within ↦ ap (λ row. has row s) (get_or-replicate max_teams f 0 0 within) ∙ has_empty s
  | inr beyond ↦
      ap (λ row. has row s) (get_or_past no_pairs f 0 (rw (length-replicate {A = ℕ} max_teams 0) beyond)) ∙ has_empty s
]

-- what is read once the row of a first team is written

record IsRowWritten (pairs : List ℕ) (first row f s : ℕ) : Type 0 where
  here : f ≡ first → has_pair (slice_set pairs first row) f s ≡ has row s
  elsewhere : f ≢ first → has_pair (slice_set pairs first row) f s ≡ has_pair pairs f s

row_written : (pairs : List ℕ) (first row f s : ℕ) → first < length pairs → IsRowWritten pairs first row f s
unfolding has_pair
row_written pairs first row f s within = record {
  here = λ same. rw same (ap (λ r. has r s) (get_or-set_same pairs first row 0 within));
  elsewhere = λ other. ap (λ r. has r s) (get_or-set_other pairs first f row 0 other);
}

pub has_pair-added : (pairs : List ℕ) (first second row f s : ℕ) → first < length pairs →
    ((t : ℕ) → has row t ≡ (t == second || has (seconds_of pairs first) t)) →
    has_pair (slice_set pairs first row) f s ≡ ((f == first && s == second) || has_pair pairs f s)
unfolding has_pair
has_pair-added pairs first second row f s within members =
    let written = row_written pairs first row f s within in
    elim (cases_eq f first) [
      | inl same ↦ written.here same ∙ members s ∙ rw (same, eq-eqb first first refl) refl
      | inr other ↦ written.elsewhere other ∙ rw (ne_eqb f first other) refl
    ]

and_swap : (a b : Bool) → (a && b) ≡ (b && a)
and_swap true true = refl
and_swap true false = refl
and_swap false true = refl
and_swap false false = refl

pub has_pair-removed : (pairs : List ℕ) (first second row f s : ℕ) → first < length pairs →
    ((t : ℕ) → has row t ≡ (has (seconds_of pairs first) t && not (t == second))) →
    has_pair (slice_set pairs first row) f s ≡ (not (f == first && s == second) && has_pair pairs f s)
unfolding has_pair
has_pair-removed pairs first second row f s within members =
    let written = row_written pairs first row f s within in
    elim (cases_eq f first) [
      | inl same ↦
          written.here same ∙ members s ∙ rw (same, eq-eqb first first refl)
          (and_swap (has (seconds_of pairs first) s) (not (s == second)))
      | inr other ↦ written.elsewhere other ∙ rw (ne_eqb f first other) refl
    ]

pub has_with_pair : (pairs : List ℕ) (first second f s : ℕ) → first < length pairs →
    has_pair (with_pair pairs first second) f s ≡ ((f == first && s == second) || has_pair pairs f s)
has_with_pair pairs first second f s within =
    has_pair-added pairs first second (with_number (seconds_of pairs first) second) f s within
    (has_with_number (seconds_of pairs first) second)

-- the teams that are first in some pair

pub AreFirsts-none : AreFirsts no_pairs 0
AreFirsts-none = record {
  rows = length-replicate {A = ℕ} max_teams 0;
  members = λ t. has_empty t ∙ sym (ap (λ row. not (row == 0)) (elim (cases_lt t max_teams) [
    | inl within ↦ get_or-replicate max_teams t 0 0 within
    | inr beyond ↦ get_or_past no_pairs t 0 (rw (length-replicate {A = ℕ} max_teams 0) beyond)
  ]));
}

-- no team is first in a pair exactly where there is no pair
pub no_firsts : (pairs : List ℕ) (firsts : ℕ) → AreFirsts pairs firsts → firsts ≡ 0 → pairs ≡ no_pairs
no_firsts pairs firsts are none =
    same_number_lists pairs no_pairs (are.rows ∙ sym (length-replicate {A = ℕ} max_teams 0))
    (λ f within. no_row (seconds_of pairs f) (sym (are.members f) ∙ ap (λ s. has s f) none ∙ has_empty f)
    ∙ sym (get_or-replicate max_teams f 0 0 (omega (arith, are.rows))))
  where
    no_row : (row : ℕ) → not (row == 0) ≡ false → row ≡ 0
    no_row row none = elim (cases_eq row 0) [
      | inl is ↦ is
      | inr other ↦ absurd (false≢true (sym none ∙ ap not (ne_eqb row 0 other)))
    ]

pub firsts_none : (pairs : List ℕ) (firsts : ℕ) → AreFirsts pairs firsts → pairs ≡ no_pairs → firsts ≡ 0
firsts_none pairs firsts are none =
    same_sets firsts 0
    (λ t. are.members t ∙ ap (λ p. not (seconds_of p t == 0)) none ∙ sym (AreFirsts-none.members t))
