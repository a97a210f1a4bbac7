-- Loops that look in a set, or in a list of games, for one that passes a test.
use Rattle.std.proofs.Common.{◌≡◌, ℕ, ◌+◌, ◌-◌, ◌&&◌, ◌||◌, ◌==◌, not, nat_lt, Bool, true, false, List, take, get_or, Some, refl, sym, ◌∙◌}
use Rattle.std.proofs.Common.{ap, inl, inr, arith}
use Rattle.std.specs.List.{slice_get, list_any}
use Rattle.std.proofs.lemmas.Bool.{or_from, cases_lt, lt-ltb, le-ltb, and_right}
use Rattle.std.proofs.lemmas.List.Folds.{list_any_more, list_any_at}
use Rattle.std.proofs.lemmas.Option.{slice_get_within, get_or_from_slice_get}
use Rattle.league.specs.Limits.{max_rounds}
use Rattle.league.specs.Sets.{has}
use Rattle.league.specs.within.Sets.{IsWithoutLowest}
use Rattle.league.specs.Sums.{any_below}
use Rattle.league.proofs.ForCallers.{any_below_found, any_below_from_none, any_below_same, has_empty}
use Rattle.rules.specs.Touches.{has_touched_round, has_touched_until, or_before}
use Rattle.rules.specs.Parts.{lacks_one}

-- one of all rounds
pub touched_round : (all : ℕ) (touched : ℕ → Bool) → ((r : ℕ) → has all r ≡ nat_lt r max_rounds) →
    any_below max_rounds (λ r. has all r && touched r) ≡ has_touched_round touched
unfolding has_touched_round
touched_round all touched members =
    any_below_same max_rounds (λ r. has all r && touched r) touched
    (λ r below. ap (λ (b : Bool). b && touched r) (members r ∙ lt-ltb r max_rounds below))

-- one of the slots or of the rounds before them
pub touched_break : (slots around : ℕ) (touched : ℕ → Bool) →
    ((r : ℕ) → has around r ≡ (nat_lt r max_rounds && (touched r || (not (r == 0) && touched (r - 1))))) →
    any_below max_rounds (λ r. has slots r && has around r) ≡ any_below max_rounds (λ r. has slots r && or_before touched r)
touched_break slots around touched members =
    any_below_same max_rounds (λ r. has slots r && has around r) (λ r. has slots r && or_before touched r)
    (λ r below. ap (λ (b : Bool). has slots r && b)
    (members r ∙ ap (λ (b : Bool). b && (touched r || (not (r == 0) && touched (r - 1)))) (lt-ltb r max_rounds below)))

pub and_again : (a b : Bool) → ((a && b) && a) ≡ (a && b)
and_again true true = refl
and_again true false = refl
and_again false b = refl

-- one that isn't a slot
pub touched_lacked : (slots lacked : ℕ) (touched : ℕ → Bool) → ((r : ℕ) → has lacked r ≡ (touched r && not (has slots r))) →
    any_below max_rounds (λ r. has lacked r && touched r) ≡ lacks_one slots touched
unfolding lacks_one
touched_lacked slots lacked touched members =
    any_below_same max_rounds (λ r. has lacked r && touched r) (λ r. touched r && not (has slots r))
    (λ r below. ap (λ (b : Bool). b && touched r) (members r) ∙ and_again (touched r) (not (has slots r)))

-- a round up to one of the slots, where the first is the lowest touched one
pub touched_until : (slots touched first rest from : ℕ) → IsWithoutLowest touched first rest →
    ((r : ℕ) → has from r ≡ (nat_lt r max_rounds && not (nat_lt r first))) →
    any_below max_rounds (λ r. has from r && has slots r) ≡ has_touched_until slots (has touched)
unfolding has_touched_until
touched_until slots touched first rest from taken members =
    any_below_same max_rounds (λ r. has from r && has slots r) (λ r. has slots r && any_below (r + 1) (has touched))
    (λ r below. ap (λ (b : Bool). b && has slots r) (members r ∙ ap (λ (b : Bool). b && not (nat_lt r first)) (lt-ltb r max_rounds below) ∙
    since r) ∙
    exchanged (any_below (r + 1) (has touched)) (has slots r))
  where
    since : (r : ℕ) → not (nat_lt r first) ≡ any_below (r + 1) (has touched)
    since r = elim (cases_lt r first) [
      | inl before ↦
          ap not (lt-ltb r first before) ∙
          sym (any_below_from_none (r + 1) (has touched) (λ k below. taken.is_lowest k (omega arith)))
      | inr after ↦
          ap not (le-ltb r first after) ∙ sym (any_below_found (r + 1) (has touched) first (omega arith) taken.in_set)
    ]

    exchanged : (a b : Bool) → (a && b) ≡ (b && a)
    exchanged true true = refl
    exchanged true false = refl
    exchanged false true = refl
    exchanged false false = refl

-- no round is touched
pub untouched_until : (slots touched : ℕ) → touched ≡ 0 → has_touched_until slots (has touched) ≡ false
unfolding has_touched_until
untouched_until slots touched none =
    any_below_from_none max_rounds (λ r. has slots r && any_below (r + 1) (has touched))
    (λ r below. and_right (has slots r) (any_below (r + 1) (has touched))
    (any_below_from_none (r + 1) (has touched) (λ k k_below. ap (λ s. has s k) none ∙ has_empty k)))

-- the same for a list, by its index

pub list_any_found : {X : Type 0} (test : X → Bool) (xs : List X) (i : ℕ) (x : X) → slice_get xs i ≡ Some x → test x ≡ true →
    list_any test xs ≡ true
list_any_found test xs i x is passes =
    list_any_at test xs i x (slice_get_within xs i x is) (ap test (get_or_from_slice_get xs i x x is) ∙ passes)

pub list_any_not_yet : {X : Type 0} (test : X → Bool) (xs : List X) (i : ℕ) (x : X) → slice_get xs i ≡ Some x →
    list_any test (take i xs) ≡ false → test x ≡ false → list_any test (take (i + 1) xs) ≡ false
list_any_not_yet test xs i x is before fails =
    list_any_more test xs i x (slice_get_within xs i x is) ∙
    or_from (list_any test (take i xs)) (test (get_or xs i x)) before (ap test (get_or_from_slice_get xs i x x is) ∙ fails)
