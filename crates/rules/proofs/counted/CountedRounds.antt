-- The rounds in which a team's game counts, and those in which it has a break, as sets.
use Rattle.std.proofs.Common.{◌≡◌, ℕ, ◌+◌, ◌-◌, ◌<◌, ◌≤◌, ◌&&◌, not, nat_lt, Bool, true, false, if◌then◌else◌, sym, inl, inr, refl}
use Rattle.std.proofs.Common.{◌∙◌, ap, arith}
use Rattle.std.specs.Bool.{beq}
use Rattle.std.proofs.Math.Bool.{and-false, and-true, and_comm}
use Rattle.std.proofs.lemmas.Bool.{cases_eq, lt-ltb, ne_eqb}
use Rattle.league.specs.Limits.{max_rounds}
use Rattle.league.specs.Sets.{has}
use Rattle.league.specs.Sums.{sum_where, count_where, any_below}
use Rattle.league.specs.declared.rule.Side.{Side}
use Rattle.league.specs.declared.rule.Side.TheVariants.{Any}
use Rattle.league.proofs.ForCallers.{sum_below_same, sum_below_add, sum_where_same, sum_where_all, count_where_same}
use Rattle.fixtures.specs.Games.{Games, round_count, cell, is_home}
use Rattle.rules.specs.Deviations.{over, is_on_side, is_counted, games_of_team, games_in_window, games_in_round, over_in_windows, is_break}
use Rattle.rules.specs.Deviations.{breaks}
use Rattle.rules.specs.Parts.{meets_window, over_in_met_windows}
use Rattle.rules.specs.within.Walked.{over_from_starts}
use Rattle.rules.proofs.walks.Sets.{sum_of_counts_swap, count_after_first}

-- a game on the side in a slot, against one of the opponents
pub counted_from : (g : Games) (side : Side) (opponents : ℕ → Bool) (t r : ℕ) (slot : Bool) →
    (((nat_lt r (round_count g.teams) && is_on_side side (is_home g t r)) && slot) && opponents (cell g t r).opponent) ≡
    (nat_lt r (round_count g.teams) && (slot && is_counted g side opponents t r))
unfolding is_counted is_home
counted_from g side opponents t r slot =
    regrouped (nat_lt r (round_count g.teams)) (is_on_side side (cell g t r).home) slot (opponents (cell g t r).opponent)
  where
    regrouped : (a b c d : Bool) → (((a && b) && c) && d) ≡ (a && (c && (b && d)))
    regrouped true true c d = refl
    regrouped true false true d = refl
    regrouped true false false d = refl
    regrouped false b c d = refl

-- the games that count in those rounds on the side that pass a test
pub counted_among : (g : Games) (side : Side) (opponents test : ℕ → Bool) (t on_side set : ℕ) →
    ((r : ℕ) → has on_side r ≡ (nat_lt r (round_count g.teams) && is_on_side side (is_home g t r))) →
    ((r : ℕ) → has set r ≡ (has on_side r && test r)) →
    count_where (round_count g.teams) (λ r. has set r && opponents (cell g t r).opponent) ≡
    count_where (round_count g.teams) (λ r. test r && is_counted g side opponents t r)
counted_among g side opponents test t on_side set on_sides members =
    count_where_same (round_count g.teams) (λ r. has set r && opponents (cell g t r).opponent)
    (λ r. test r && is_counted g side opponents t r)
    (λ r below.
    ap (λ b. b && opponents (cell g t r).opponent) (members r ∙ ap (λ b. b && test r) (on_sides r)) ∙
    counted_from g side opponents t r (test r) ∙
    ap (λ b. b && (test r && is_counted g side opponents t r)) (lt-ltb r (round_count g.teams) below))

-- in the slots and out of them
pub counted_in_and_out : (n : ℕ) (slots test : ℕ → Bool) →
    count_where n (λ r. slots r && test r) + count_where n (λ r. not (slots r) && test r) ≡ count_where n test
counted_in_and_out n slots test =
    sym (sum_below_add n (λ r. if slots r && test r then 1 else 0) (λ r. if not (slots r) && test r then 1 else 0)) ∙
    sum_below_same n _ _ (λ r below. at (slots r) (test r))
  where
    at : (a b : Bool) → (if a && b then 1 else 0) + (if not a && b then 1 else 0) ≡ (if b then 1 else 0)
    at true true = refl
    at true false = refl
    at false true = refl
    at false false = refl

-- the windows of the counted rounds of some slots, which have all rounds of these windows
module _ (g : Games) (side : Side) (opponents : ℕ → Bool) (window most t slots counted : ℕ)
    (members : (r : ℕ) → has counted r ≡ (nat_lt r (round_count g.teams) && (has slots r && is_counted g side opponents t r))) where
  over_in_window : (first : ℕ) → first < round_count g.teams + 1 - window → ((k : ℕ) → k < window → has slots (first + k) ≡ true) →
      over (count_where window (λ k. has counted (first + k))) most ≡ over (games_in_window g side opponents window t first) most
  unfolding games_in_window
  over_in_window first below all =
      ap (λ n. over n most)
      (count_where_same window (λ k. has counted (first + k)) (λ k. is_counted g side opponents t (first + k))
      (λ k k_below. in_slots (first + k) (omega arith) (all k k_below)))
    where
      in_slots : (r : ℕ) → r < round_count g.teams → has slots r ≡ true → has counted r ≡ is_counted g side opponents t r
      in_slots r in_r here =
          members r ∙ ap (λ b. nat_lt r (round_count g.teams) && (b && is_counted g side opponents t r)) here ∙
          ap (λ b. b && is_counted g side opponents t r) (lt-ltb r (round_count g.teams) in_r)

  -- those that begin with one of some starts
  pub starts_of_counted : (starts : ℕ) →
      ((s k : ℕ) → s < round_count g.teams + 1 - window → has starts s ≡ true → k < window → has slots (s + k) ≡ true) →
      sum_where (round_count g.teams + 1 - window) (has starts) (λ first. over (count_where window (λ k. has counted (first + k))) most) ≡
      sum_where (round_count g.teams + 1 - window) (has starts) (λ first. over (games_in_window g side opponents window t first) most)
  starts_of_counted starts all =
      sum_where_same (round_count g.teams + 1 - window) (has starts) (has starts)
      (λ first. over (count_where window (λ k. has counted (first + k))) most)
      (λ first. over (games_in_window g side opponents window t first) most)
      (λ s below. refl) (λ s below passes. over_in_window s below (λ k. all s k below passes))

-- all windows of a season
pub all_windows : (g : Games) (side : Side) (opponents window most starts windows t : ℕ) → windows ≡ round_count g.teams + 1 - window →
    ((s : ℕ) → has starts s ≡ nat_lt s windows) →
    over_from_starts g side opponents window most starts t ≡ over_in_windows g side (has opponents) window most t
unfolding over_in_windows
all_windows g side opponents window most starts windows t size members =
    sum_where_all (round_count g.teams + 1 - window) (has starts)
    (λ first. over (games_in_window g side (has opponents) window t first) most)
    (λ s below. members s ∙ lt-ltb s windows (omega (arith, size, below)))

-- the windows that have a round of a set
pub met_starts : (g : Games) (side : Side) (opponents rounds : ℕ → Bool) (window most t whole meeting starts windows : ℕ) →
    windows ≡ round_count g.teams + 1 - window →
    ((s : ℕ) → has whole s ≡ nat_lt s windows) → ((s : ℕ) → has meeting s ≡ any_below window (λ k. rounds (s + k))) →
    ((s : ℕ) → has starts s ≡ (has whole s && has meeting s)) →
    sum_where (round_count g.teams + 1 - window) (has starts) (λ first. over (games_in_window g side opponents window t first) most) ≡
    over_in_met_windows g side opponents window most rounds t
unfolding over_in_met_windows meets_window
met_starts g side opponents rounds window most t whole meeting starts windows size wholes meets is =
    sum_where_same (round_count g.teams + 1 - window) (has starts) (λ first. any_below window (λ k. rounds (first + k)))
    (λ first. over (games_in_window g side opponents window t first) most)
    (λ first. over (games_in_window g side opponents window t first) most)
    (λ s below. is s ∙ ap (λ b. b && has meeting s) (wholes s ∙ lt-ltb s windows (omega (arith, size, below))) ∙ meets s)
    (λ s below passes. refl)

-- if all windows have a round of the set
pub all_met : (g : Games) (side : Side) (opponents rounds : ℕ → Bool) (window most t whole meeting starts windows : ℕ) →
    windows ≡ round_count g.teams + 1 - window →
    ((s : ℕ) → has whole s ≡ nat_lt s windows) → ((s : ℕ) → has meeting s ≡ any_below window (λ k. rounds (s + k))) →
    ((s : ℕ) → has starts s ≡ (has whole s && has meeting s)) → starts ≡ whole →
    over_in_windows g side opponents window most t ≡ over_in_met_windows g side opponents window most rounds t
unfolding over_in_windows
all_met g side opponents rounds window most t whole meeting starts windows size wholes meets is all =
    sym (sum_where_all (round_count g.teams + 1 - window) (has starts)
    (λ first. over (games_in_window g side opponents window t first) most)
    (λ s below. ap (λ set. has set s) all ∙ wholes s ∙ lt-ltb s windows (omega (arith, size, below)))) ∙
    met_starts g side opponents rounds window most t whole meeting starts windows size wholes meets is

-- all games that count, team by team
pub together_by_teams : (g : Games) (side : Side) (teams opponents slots : ℕ → Bool) →
    sum_where g.teams teams (games_of_team g side opponents slots) ≡
    sum_where (round_count g.teams) slots (games_in_round g side teams opponents)
unfolding games_of_team games_in_round
together_by_teams g side teams opponents slots =
    sum_of_counts_swap g.teams (round_count g.teams) teams slots (is_counted g side opponents)

-- the breaks that begin with one of some rounds: those after which the team doesn't change sides
module _ (g : Games) (t firsts home changes : ℕ) (most : round_count g.teams ≤ max_rounds)
    (homes : (r : ℕ) → has home r ≡ (nat_lt r (round_count g.teams) && is_home g t r))
    (all_changes : (r : ℕ) → r + 1 < max_rounds → not (has changes r) ≡ beq (has home r) (has home (r + 1))) where
  at_home : (r : ℕ) → r < round_count g.teams → has home r ≡ is_home g t r
  at_home r in_r = homes r ∙ ap (λ b. b && is_home g t r) (lt-ltb r (round_count g.teams) in_r)

  either_round : (side : Side) (first x y : Bool) →
      ((first && beq x y) && is_on_side side x) ≡ (first && (true && beq x y && is_on_side side y))
  either_round side true true true = refl
  either_round side true true false = refl
  either_round side true false true = refl
  either_round side true false false = refl
  either_round side false x y = refl

  begins : (side : Side) (r : ℕ) → r < round_count g.teams - 1 →
      ((has firsts r && not (has changes r)) && is_on_side side (has home r)) ≡ (has firsts (1 + r - 1) && is_break g side t (1 + r))
  unfolding is_break is_home
  begins side r below =
      let first : 1 + r - 1 ≡ r = omega arith in
      let second : 1 + r ≡ r + 1 = omega arith in
      rw (
        all_changes r (omega (arith, most)),
        at_home r (omega arith),
        at_home (r + 1) (omega arith),
        first,
        second,
        ne_eqb (r + 1) 0 (omega arith),
      )
      (either_round side (has firsts r) (cell g t r).home (cell g t (r + 1)).home)

  pub breaks_of_firsts : (side : Side) (counted : ℕ → Bool) →
      ((r : ℕ) → counted r ≡ ((has firsts r && not (has changes r)) && is_on_side side (has home r))) →
      count_where (round_count g.teams - 1) counted ≡ breaks g t (λ r. has firsts (r - 1)) side
  unfolding breaks is_break
  breaks_of_firsts side counted members =
      count_where_same (round_count g.teams - 1) counted (λ r. has firsts (1 + r - 1) && is_break g side t (1 + r))
      (λ r below. members r ∙ begins side r below) ∙
      sym (count_after_first (round_count g.teams) (λ r. has firsts (r - 1) && is_break g side t r) (and-false (has firsts (0 - 1))))

  -- the others are the rounds after which it does
  pub changes_of_firsts : (changed : ℕ) → ((r : ℕ) → has changed r ≡ (has firsts r && has changes r)) →
      count_where (round_count g.teams - 1) (has changed) + breaks g t (λ r. has firsts (r - 1)) Any ≡
      count_where (round_count g.teams - 1) (has firsts)
  changes_of_firsts changed members =
      omega (
        arith,
        breaks_of_firsts Any (λ r. not (has changes r) && has firsts r)
            (λ r. and_comm (not (has changes r)) (has firsts r) ∙ sym (and-true (has firsts r && not (has changes r)))),
        count_where_same (round_count g.teams - 1) (has changed) (λ r. has changes r && has firsts r)
            (λ r below. members r ∙ and_comm (has firsts r) (has changes r)),
        counted_in_and_out (round_count g.teams - 1) (has changes) (has firsts),
      )

-- those in the slots begin with the rounds before them
pub breaks_in_slots : (g : Games) (side : Side) (t firsts slots : ℕ) →
    ((r : ℕ) → r + 1 < round_count g.teams → has firsts r ≡ has slots (r + 1)) →
    breaks g t (λ r. has firsts (r - 1)) side ≡ breaks g t (has slots) side
unfolding breaks is_break
breaks_in_slots g side t firsts slots members =
    count_where_same (round_count g.teams) (λ r. has firsts (r - 1) && is_break g side t r) (λ r. has slots r && is_break g side t r) here
  where
    here : (r : ℕ) → r < round_count g.teams → (has firsts (r - 1) && is_break g side t r) ≡ (has slots r && is_break g side t r)
    here r in_r = elim (cases_eq r 0) [
      | inl first ↦ rw first (and-false (has firsts (0 - 1)) ∙ sym (and-false (has slots 0)))
      | inr later ↦
          let back : r - 1 + 1 ≡ r = omega arith in
          ap (λ b. b && is_break g side t r) (members (r - 1) (omega arith) ∙ ap (has slots) back)
    ]
