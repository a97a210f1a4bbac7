-- The rounds that are not kept whole.
use Rattle.std.proofs.Common.{◌≡◌, ℕ, zero, suc, ◌+◌, ◌<◌, ◌≤◌, Bool, true, false, inl, inr, List, [], ◌∷◌, ◌++◌, length, if◌then◌else◌}
use Rattle.std.proofs.Common.{All, append-nil, refl, arith, add-one}
use Rattle.std.proofs.Math.Nat.{eq-or-lt_of_le, le_of_suc-le-suc, not-suc-le-zero}
use Rattle.std.proofs.lemmas.Bool.{and_left, and_right}
use Rattle.std.proofs.lemmas.List.{length-append}
use Rattle.std.proofs.lemmas.List.Elements.{All-append, All-cons, All-nil, All-weaker}
use Rattle.league.specs.League.{LeagueData}
use Rattle.fixtures.specs.Games.{Games}
use Rattle.fixtures.specs.Games.{round_count}
use Rattle.league.specs.Limits.{max_rounds}
use Rattle.draws.specs.Draws.{AreRoundsOf, each_round}
use Rattle.improvement.specs.within.Rounds.{are_kept_below, free_below, is_kept, is_kept_whole, rounds_or_all}

pub none_kept : (league : LeagueData) (g : Games) (round : ℕ) → are_kept_below league g round 0 ≡ true
unfolding are_kept_below
none_kept league g round = refl

pub one_kept : (league : LeagueData) (g : Games) (round m : ℕ) → are_kept_below league g round m ≡ true → is_kept league g round m ≡ true →
    are_kept_below league g round (m + 1) ≡ true
unfolding are_kept_below
one_kept league g round m before here = rw (add-one, before, here) refl

-- a game that isn't kept
pub not_whole : (league : LeagueData) (g : Games) (round team m : ℕ) → team < m → is_kept league g round team ≡ false →
    are_kept_below league g round m ≡ false
unfolding are_kept_below
not_whole league g round team zero below is = absurd (not-suc-le-zero below)
not_whole league g round team (suc m) below is = elim (eq-or-lt_of_le (le_of_suc-le-suc below)) [
  | inl same ↦ and_right (are_kept_below league g round m) (is_kept league g round m) (rw same at is)
  | inr lower ↦ and_left (are_kept_below league g round m) (is_kept league g round m) (not_whole league g round team m lower is)
]

pub none_free : (league : LeagueData) (g : Games) → free_below league g 0 ≡ []
unfolding free_below
none_free league g = refl

pub free_more : (league : LeagueData) (g : Games) (m : ℕ) → is_kept_whole league g m ≡ false →
    free_below league g (m + 1) ≡ free_below league g m ++ m ∷ []
unfolding free_below
free_more league g m free = rw (add-one, free) refl

pub free_same : (league : LeagueData) (g : Games) (m : ℕ) → is_kept_whole league g m ≡ true →
    free_below league g (m + 1) ≡ free_below league g m
unfolding free_below
free_same league g m whole = rw (add-one, whole) (append-nil (free_below league g m))

free_by : (free : List ℕ) (m : ℕ) (c : Bool) → All (λ r. r < m) free → length free ≤ m →
    All (λ r. r < suc m) (free ++ (if c then [] else m ∷ [])) × (length (free ++ (if c then [] else m ∷ [])) ≤ suc m)
free_by free m true in_season few = (
  All-append (λ r. r < suc m) free [] (All-weaker (λ r. r < m) (λ r. r < suc m) (λ r below. omega arith) free in_season)
      (All-nil (λ r. r < suc m)),
  omega (arith, length-append free [], few),
)
free_by free m false in_season few = (
  All-append (λ r. r < suc m) free (m ∷ []) (All-weaker (λ r. r < m) (λ r. r < suc m) (λ r below. omega arith) free in_season)
      (All-cons (λ r. r < suc m) m [] (omega arith) (All-nil (λ r. r < suc m))),
  omega (arith, length-append free (m ∷ []), few),
)

-- there are at most as many
pub free_is : (league : LeagueData) (g : Games) (m : ℕ) → All (λ r. r < m) (free_below league g m) × (length (free_below league g m) ≤ m)
unfolding free_below
free_is league g zero = (All-nil (λ r. r < 0), omega arith)
free_is league g (suc m) =
    let before = free_is league g m in free_by (free_below league g m) m (is_kept_whole league g m) before.0 before.1

pub some_free : (n : ℕ) (free : List ℕ) → (length free ≡ 0 → ⊥) → free ≡ rounds_or_all n free
some_free n [] some = absurd (some refl)
some_free n (round ∷ rounds) some = refl

pub none_left_free : (n : ℕ) (free : List ℕ) → length free ≡ 0 → each_round n ≡ rounds_or_all n free
none_left_free n [] none = refl
none_left_free n (round ∷ rounds) none = absurd (omega (arith, none))

-- they are rounds of the season
pub free_are : (league : LeagueData) (g : Games) (n : ℕ) → round_count n ≤ max_rounds → (length (free_below league g (round_count n)) ≡ 0 → ⊥) →
    AreRoundsOf n (free_below league g (round_count n))
free_are league g n short some =
    let is = free_is league g (round_count n) in
    record { some = omega (arith, some); few = omega (arith, is.1, short); in_season = is.0 }
