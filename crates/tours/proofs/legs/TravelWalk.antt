-- The legs of a part, one after another, each of all its teams.
use Rattle.std.proofs.Common.{◌≡◌, ℕ, ◌+◌, ◌-◌, ◌<◌, Bool, true, false, not, ◌&&◌, ◌||◌, refl, sym, ◌∙◌, ap, arith}
use Rattle.std.specs.Prelude.{◌==◌, nat_lt, if◌then◌else◌}
use Rattle.std.proofs.lemmas.Bool.Decides.{nat_tests}
use Rattle.league.specs.Sums.{sum_below, sum_where}
use Rattle.league.specs.Sets.{has}
use Rattle.league.proofs.ForCallers.{sum_below_same, sum_below_zero, sum_below_swap, sum_below_more, sum_where_same}
use Rattle.fixtures.specs.Games.{Games, round_count}
use Rattle.tours.specs.Tours.{leg_count}
use Rattle.tours.specs.Parts.{touches_leg}

-- what each team of the set adds at an index
abbrev pub of_teams : Games → (ℕ → ℕ → ℕ) → (ℕ → Bool) → ℕ → ℕ
of_teams g f teams r = sum_where g.teams teams (λ t. f t r)

either_zero : (b : Bool) → ◌≡◌ {A = ℕ} (if b then 0 else 0) 0
either_zero true = refl
either_zero false = refl

pub inside : (b : Bool) (n : ℕ) (test : ℕ → Bool) (f : ℕ → ℕ) →
    (if b then sum_where n test f else 0) ≡ sum_below n (λ r. if test r then (if b then f r else 0) else 0)
inside true n test f = refl
inside false n test f = sym (sum_below_zero n (λ r. if test r then 0 else 0) (λ r below. either_zero (test r)))

pub outside : (b : Bool) (n : ℕ) (f : ℕ → ℕ) → sum_below n (λ t. if b then f t else 0) ≡ (if b then sum_below n f else 0)
outside true n f = refl
outside false n f = sum_below_zero n (λ _. 0) (λ t below. refl)

-- the order of two sums is free
pub sum_where_swap : (m n : ℕ) (rows columns : ℕ → Bool) (f : ℕ → ℕ → ℕ) →
    sum_where m rows (λ i. sum_where n columns (f i)) ≡ sum_where n columns (λ j. sum_where m rows (λ i. f i j))
sum_where_swap m n rows columns f =
    sum_below_same m (λ i. if rows i then sum_where n columns (f i) else 0)
    (λ i. sum_below n (λ j. if columns j then (if rows i then f i j else 0) else 0))
    (λ i below. inside (rows i) n columns (f i)) ∙
    sum_below_swap m n (λ i j. if columns j then (if rows i then f i j else 0) else 0) ∙
    sum_below_same n (λ j. sum_below m (λ i. if columns j then (if rows i then f i j else 0) else 0))
    (λ j. if columns j then sum_where m rows (λ i. f i j) else 0)
    (λ j below. outside (columns j) m (λ i. if rows i then f i j else 0))

-- legs outside, teams inside
by_legs : (g : Games) (f : ℕ → ℕ → ℕ) (teams rounds : ℕ → Bool) →
    sum_where g.teams teams (λ t. sum_where (leg_count g) (touches_leg g rounds) (f t)) ≡
    sum_where (leg_count g) (touches_leg g rounds) (of_teams g f teams)
by_legs g f teams rounds = sum_where_swap g.teams (leg_count g) teams (touches_leg g rounds) f

touched_leg : (r rounds : ℕ) (at before : Bool) → r < rounds →
    (nat_lt r rounds && (at || (not (r == 0) && before))) ≡ ((not (r == 0) && before) || (nat_lt r rounds && at))
touched_leg r rounds at before in_r = grind (arith, nat_tests)

touched_home : (rounds : ℕ) (at before : Bool) → 0 < rounds → ((not (rounds == 0) && before) || (nat_lt rounds rounds && at)) ≡ before
touched_home rounds at before some = grind (arith, nat_tests)

-- the legs that end with a round, and the leg home
pub legs_walked : (g : Games) (f : ℕ → ℕ → ℕ) (teams legs : ℕ) (all_teams rounds : ℕ → Bool) → 0 < round_count g.teams →
    ((t : ℕ) → t < g.teams → has teams t ≡ all_teams t) →
    ((r : ℕ) → has legs r ≡ (nat_lt r (round_count g.teams) && (rounds r || (not (r == 0) && rounds (r - 1))))) →
    sum_where g.teams all_teams (λ t. sum_where (leg_count g) (touches_leg g rounds) (f t)) ≡
    sum_where (round_count g.teams) (has legs) (of_teams g f (has teams)) +
    (if rounds (round_count g.teams - 1) then of_teams g f (has teams) (round_count g.teams) else 0)
unfolding touches_leg
legs_walked g f teams legs all_teams rounds some members is_legs =
    by_legs g f all_teams rounds ∙
    sum_below_more (round_count g.teams) (λ r. if touches_leg g rounds r then of_teams g f all_teams r else 0) ∙
    ap (λ x. x + (if touches_leg g rounds (round_count g.teams) then of_teams g f all_teams (round_count g.teams) else 0)) walked ∙
    ap (λ x. sum_where (round_count g.teams) (has legs) (of_teams g f (has teams)) + x) home
  where
    same_legs : (r : ℕ) → of_teams g f all_teams r ≡ of_teams g f (has teams) r
    same_legs r =
        sum_where_same g.teams all_teams (has teams) (λ t. f t r) (λ t. f t r) (λ t in_t. sym (members t in_t)) (λ t in_t passes. refl)

    walked : sum_where (round_count g.teams) (touches_leg g rounds) (of_teams g f all_teams) ≡
        sum_where (round_count g.teams) (has legs) (of_teams g f (has teams))
    walked =
        sum_where_same (round_count g.teams) (touches_leg g rounds) (has legs) (of_teams g f all_teams) (of_teams g f (has teams))
        (λ r in_r. sym (is_legs r ∙ touched_leg r (round_count g.teams) (rounds r) (rounds (r - 1)) in_r)) (λ r in_r touched. same_legs r)

    home : (if touches_leg g rounds (round_count g.teams) then of_teams g f all_teams (round_count g.teams) else 0) ≡
        (if rounds (round_count g.teams - 1) then of_teams g f (has teams) (round_count g.teams) else 0)
    home =
        ap (λ b. if b then of_teams g f all_teams (round_count g.teams) else 0)
        (touched_home (round_count g.teams) (rounds (round_count g.teams)) (rounds (round_count g.teams - 1)) some) ∙
        ap (λ x. if rounds (round_count g.teams - 1) then x else 0) (same_legs (round_count g.teams))
