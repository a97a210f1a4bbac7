-- Where all that a rule looks at is the same in two schedules, so is the deviation.
use Rattle.std.proofs.Common.{◌≡◌, ℕ, ◌+◌, ◌-◌, ◌<◌, ◌≤◌, ◌==◌, not, ◌&&◌, if◌then◌else◌, Bool, true, false, List, [], ◌∷◌, refl, sym, ◌∙◌}
use Rattle.std.proofs.Common.{ap, arith}
use Rattle.std.specs.Bool.{beq}
use Rattle.std.specs.List.{AllByRecursion}
use Rattle.std.proofs.lemmas.Bool.{and_parts}
use Rattle.std.proofs.lemmas.List.Sums.{sum_by-cons}
use Rattle.league.specs.Sums.{sum_below, sum_where, count_where}
use Rattle.league.specs.declared.rule.Pairing.{Pairing}
use Rattle.league.specs.declared.rule.Side.{Side}
use Rattle.league.proofs.ForCallers.{sum_below_same, sum_where_same, count_where_same}
use Rattle.fixtures.specs.Games.{Games, round_count, round_of, cell, is_home, IsPair}
use Rattle.rules.specs.Deviations.{over, is_on_side, is_counted, games_of_team, games_in_window, games_in_round, is_break, breaks}
use Rattle.rules.specs.Deviations.{rounds_between, listed_games_in, over_in_windows, short_pairs}
use Rattle.rules.specs.Deviations.{home_games, largest_below, gap, worst_gap, worst_gaps}
use Rattle.rules.proofs.limits.Largest.{largest_below_same}

-- each of the teams is on the same side in each of the rounds, against an opponent that passes the test in both schedules or in neither
pub record SeesSame (g g' : Games) (teams rounds opponents : ℕ → Bool) : Type 0 where
  pub same_size : g'.teams ≡ g.teams
  pub side : (t r : ℕ) → t < g.teams → r < round_count g.teams → teams t ≡ true → rounds r ≡ true →
      (cell g' t r).home ≡ (cell g t r).home
  pub opponent : (t r : ℕ) → t < g.teams → r < round_count g.teams → teams t ≡ true → rounds r ≡ true →
      opponents (cell g' t r).opponent ≡ opponents (cell g t r).opponent

-- each of the teams is on the same side in each of the slots, and in the round before it
pub record SeesSameBreaks (g g' : Games) (teams slots : ℕ → Bool) : Type 0 where
  pub same_size : g'.teams ≡ g.teams
  pub side : (t r : ℕ) → t < g.teams → r < round_count g.teams → teams t ≡ true → slots r ≡ true →
      (cell g' t r).home ≡ (cell g t r).home
  pub before : (t r : ℕ) → t < g.teams → r < round_count g.teams → teams t ≡ true → slots r ≡ true →
      (cell g' t (r - 1)).home ≡ (cell g t (r - 1)).home

-- each of the teams is on the same side in each round up to one of the slots
pub record SeesSameUntil (g g' : Games) (teams slots : ℕ → Bool) : Type 0 where
  pub same_size : g'.teams ≡ g.teams
  pub side : (t r k : ℕ) → t < g.teams → r < round_count g.teams → teams t ≡ true → slots r ≡ true → k < r + 1 →
      is_home g' t k ≡ is_home g t k

and_same : (b x y : Bool) → (b ≡ true → x ≡ y) → (b && x) ≡ (b && y)
and_same true x y same = same refl
and_same false x y same = refl

if_same : (b : Bool) (x y : ℕ) → (b ≡ true → x ≡ y) → (if b then x else 0) ≡ (if b then y else 0)
if_same true x y same = same refl
if_same false x y same = refl

-- sums and counts below the teams, or the rounds, of schedules of one size

sum_below_sized : (m n : ℕ) (f g : ℕ → ℕ) → m ≡ n → ((k : ℕ) → k < n → f k ≡ g k) → sum_below m f ≡ sum_below n g
sum_below_sized m n f g size same = ap (λ (k : ℕ). sum_below k f) size ∙ sum_below_same n f g same

pub sum_where_sized : (m n : ℕ) (test : ℕ → Bool) (f g : ℕ → ℕ) → m ≡ n → ((k : ℕ) → k < n → test k ≡ true → f k ≡ g k) →
    sum_where m test f ≡ sum_where n test g
sum_where_sized m n test f g size same =
    ap (λ (k : ℕ). sum_where k test f) size ∙ sum_where_same n test test f g (λ k below. refl) same

count_where_sized : (m n : ℕ) (test other : ℕ → Bool) → m ≡ n → ((k : ℕ) → k < n → test k ≡ other k) →
    count_where m test ≡ count_where n other
count_where_sized m n test other size same =
    ap (λ (k : ℕ). count_where k test) size ∙ count_where_same n test other same

module _ (g g' : Games) (teams rounds opponents : ℕ → Bool) (sees : SeesSame g g' teams rounds opponents) where
  rounds_sized : round_count g'.teams ≡ round_count g.teams
  rounds_sized = ap round_count sees.same_size

  pub is_counted-same : (side : Side) (t r : ℕ) → t < g.teams → r < round_count g.teams → teams t ≡ true → rounds r ≡ true →
      is_counted g' side opponents t r ≡ is_counted g side opponents t r
  unfolding is_counted
  is_counted-same side t r in_t in_r team round =
      ap (λ (home : Bool). is_on_side side home && opponents (cell g' t r).opponent) (sees.side t r in_t in_r team round) ∙
      ap (λ (passes : Bool). is_on_side side (cell g t r).home && passes) (sees.opponent t r in_t in_r team round)

  pub games_of_team-same : (side : Side) (t : ℕ) → t < g.teams → teams t ≡ true →
      games_of_team g' side opponents rounds t ≡ games_of_team g side opponents rounds t
  unfolding games_of_team
  games_of_team-same side t in_t team =
      count_where_sized (round_count g'.teams) (round_count g.teams) (λ r. rounds r && is_counted g' side opponents t r)
      (λ r. rounds r && is_counted g side opponents t r) rounds_sized
      (λ r in_r. and_same (rounds r) _ _ (is_counted-same side t r in_t in_r team))

  pub limited-same : (side : Side) (most : ℕ) →
      sum_where g'.teams teams (λ t. over (games_of_team g' side opponents rounds t) most) ≡
      sum_where g.teams teams (λ t. over (games_of_team g side opponents rounds t) most)
  limited-same side most =
      sum_where_sized g'.teams g.teams teams _ _ sees.same_size
      (λ t in_t team. ap (λ (count : ℕ). over count most) (games_of_team-same side t in_t team))

  pub games_in_round-same : (side : Side) (r : ℕ) → r < round_count g.teams → rounds r ≡ true →
      games_in_round g' side teams opponents r ≡ games_in_round g side teams opponents r
  unfolding games_in_round
  games_in_round-same side r in_r round =
      count_where_sized g'.teams g.teams (λ t. teams t && is_counted g' side opponents t r)
      (λ t. teams t && is_counted g side opponents t r) sees.same_size
      (λ t in_t. and_same (teams t) _ _ (λ team. is_counted-same side t r in_t in_r team round))

  pub together-same : (side : Side) (most : ℕ) →
      over (sum_where (round_count g'.teams) rounds (games_in_round g' side teams opponents)) most ≡
      over (sum_where (round_count g.teams) rounds (games_in_round g side teams opponents)) most
  together-same side most =
      ap (λ (count : ℕ). over count most)
      (sum_where_sized (round_count g'.teams) (round_count g.teams) rounds _ _ rounds_sized (games_in_round-same side))

  pub each-same : (side : Side) (most : ℕ) →
      sum_where (round_count g'.teams) rounds (λ r. over (games_in_round g' side teams opponents r) most) ≡
      sum_where (round_count g.teams) rounds (λ r. over (games_in_round g side teams opponents r) most)
  each-same side most =
      sum_where_sized (round_count g'.teams) (round_count g.teams) rounds _ _ rounds_sized
      (λ r in_r round. ap (λ (count : ℕ). over count most) (games_in_round-same side r in_r round))

module _ (g g' : Games) (teams opponents : ℕ → Bool) (sees : SeesSame g g' teams (λ _. true) opponents) where
  pub games_in_window-same : (side : Side) (window t first : ℕ) → t < g.teams → teams t ≡ true → first + window ≤ round_count g.teams →
      games_in_window g' side opponents window t first ≡ games_in_window g side opponents window t first
  unfolding games_in_window
  games_in_window-same side window t first in_t team within =
      count_where_same window (λ k. is_counted g' side opponents t (first + k)) (λ k. is_counted g side opponents t (first + k))
      (λ k below. is_counted-same g g' teams (λ _. true) opponents sees side t (first + k) in_t (omega arith) team refl)

  pub over_in_windows-same : (side : Side) (window most t : ℕ) → t < g.teams → teams t ≡ true → window ≤ round_count g.teams →
      over_in_windows g' side opponents window most t ≡ over_in_windows g side opponents window most t
  unfolding over_in_windows
  over_in_windows-same side window most t in_t team within =
      sum_below_sized (round_count g'.teams + 1 - window) (round_count g.teams + 1 - window) _ _
      (ap (λ (n : ℕ). round_count n + 1 - window) sees.same_size)
      (λ first below. ap (λ (count : ℕ). over count most) (games_in_window-same side window t first in_t team (omega arith)))

  pub windows-same : (side : Side) (window most : ℕ) → window ≤ round_count g.teams →
      sum_where g'.teams teams (over_in_windows g' side opponents window most) ≡
      sum_where g.teams teams (over_in_windows g side opponents window most)
  windows-same side window most within =
      sum_where_sized g'.teams g.teams teams _ _ sees.same_size
      (λ t in_t team. over_in_windows-same side window most t in_t team within)

module _ (g g' : Games) (teams slots : ℕ → Bool) (sees : SeesSameBreaks g g' teams slots) where
  is_break-same : (side : Side) (t r : ℕ) → t < g.teams → r < round_count g.teams → teams t ≡ true → slots r ≡ true →
      is_break g' side t r ≡ is_break g side t r
  unfolding is_break
  is_break-same side t r in_t in_r team slot =
      ap (λ (home : Bool). not (r == 0) && beq (cell g' t (r - 1)).home home && is_on_side side home) (sees.side t r in_t in_r team slot) ∙
      ap (λ (home : Bool). not (r == 0) && beq home (cell g t r).home && is_on_side side (cell g t r).home)
      (sees.before t r in_t in_r team slot)

  pub breaks-same : (side : Side) (t : ℕ) → t < g.teams → teams t ≡ true → breaks g' t slots side ≡ breaks g t slots side
  unfolding breaks
  breaks-same side t in_t team =
      count_where_sized (round_count g'.teams) (round_count g.teams) (λ r. slots r && is_break g' side t r)
      (λ r. slots r && is_break g side t r) (ap round_count sees.same_size)
      (λ r in_r. and_same (slots r) _ _ (is_break-same side t r in_t in_r team))

  pub breaks_of_each-same : (side : Side) (most : ℕ) →
      sum_where g'.teams teams (λ t. over (breaks g' t slots side) most) ≡
      sum_where g.teams teams (λ t. over (breaks g t slots side) most)
  breaks_of_each-same side most =
      sum_where_sized g'.teams g.teams teams _ _ sees.same_size
      (λ t in_t team. ap (λ (count : ℕ). over count most) (breaks-same side t in_t team))

  pub breaks_of_all-same : (side : Side) (most : ℕ) →
      over (sum_where g'.teams teams (λ t. breaks g' t slots side)) most ≡
      over (sum_where g.teams teams (λ t. breaks g t slots side)) most
  breaks_of_all-same side most =
      ap (λ (count : ℕ). over count most)
      (sum_where_sized g'.teams g.teams teams _ _ sees.same_size (breaks-same side))

module _ (g g' : Games) (teams slots : ℕ → Bool) (sees : SeesSameUntil g g' teams slots) where
  home_games-same : (t r : ℕ) → t < g.teams → r < round_count g.teams → teams t ≡ true → slots r ≡ true →
      home_games g' t r ≡ home_games g t r
  unfolding home_games
  home_games-same t r in_t in_r team slot =
      count_where_same (r + 1) (is_home g' t) (is_home g t) (λ k below. sees.side t r k in_t in_r team slot below)

  gap-same : (most i j r : ℕ) → i < g.teams → j < g.teams → r < round_count g.teams → teams i ≡ true → teams j ≡ true →
      slots r ≡ true → gap g' most i j r ≡ gap g most i j r
  unfolding gap
  gap-same most i j r in_i in_j in_r team other slot =
      rw (home_games-same i r in_i in_r team slot, home_games-same j r in_j in_r other slot) refl

  pub worst_gap-same : (most i j : ℕ) → i < g.teams → j < g.teams → teams i ≡ true → teams j ≡ true →
      worst_gap g' slots most i j ≡ worst_gap g slots most i j
  unfolding worst_gap
  worst_gap-same most i j in_i in_j team other =
      ap (λ (n : ℕ). largest_below n (λ r. if slots r then gap g' most i j r else 0)) (ap round_count sees.same_size) ∙
      largest_below_same (round_count g.teams) (λ r. if slots r then gap g' most i j r else 0)
      (λ r. if slots r then gap g most i j r else 0)
      (λ r in_r. if_same (slots r) _ _ (gap-same most i j r in_i in_j in_r team other))

  pub gaps-same : (most : ℕ) → sum_below g'.teams (worst_gaps g' teams slots most) ≡ sum_below g.teams (worst_gaps g teams slots most)
  unfolding worst_gaps
  gaps-same most =
      sum_below_sized g'.teams g.teams _ _ sees.same_size
      (λ j in_j. sum_where_same j (λ i. teams i && teams j) (λ i. teams i && teams j) _ _ (λ i lower. refl)
      (λ i lower both.
      let parts = and_parts (teams i) (teams j) both in worst_gap-same most i j (omega arith) in_j parts.0 parts.1))

-- where the games of each two of the teams keep their rounds
pub separation-same : (g g' : Games) (teams : ℕ → Bool) (least : ℕ) → g'.teams ≡ g.teams →
    ((i j : ℕ) → IsPair g.teams i j → teams i ≡ true → teams j ≡ true → round_of g' i j ≡ round_of g i j) →
    sum_below g'.teams (short_pairs g' teams least) ≡ sum_below g.teams (short_pairs g teams least)
unfolding short_pairs rounds_between
separation-same g g' teams least size same =
    sum_below_sized g'.teams g.teams _ _ size
    (λ j in_j. sum_where_same j (λ i. teams i && teams j) (λ i. teams i && teams j) _ _ (λ i lower. refl)
    (λ i lower both. short-same i j lower in_j (and_parts (teams i) (teams j) both)))
  where
    short-same : (i j : ℕ) → i < j → j < g.teams → (teams i ≡ true) × (teams j ≡ true) →
        over least (rounds_between g' i j) ≡ over least (rounds_between g i j)
    short-same i j lower in_j both =
        let there : round_of g' i j ≡ round_of g i j =
        same i j (record { home_in = omega arith; away_in = in_j; distinct = omega arith }) both.0 both.1 in
        let back : round_of g' j i ≡ round_of g j i =
        same j i (record { home_in = in_j; away_in = omega arith; distinct = omega arith }) both.1 both.0 in
        rw (there, back) refl

-- where each of the games is in the slots in both schedules or in neither
pub listed_games_in-same : (g g' : Games) (slots : ℕ → Bool) (games : List Pairing) →
    AllByRecursion (λ (game : Pairing). slots (round_of g' game.home game.away) ≡ slots (round_of g game.home game.away)) games →
    listed_games_in g' slots games ≡ listed_games_in g slots games
unfolding listed_games_in
listed_games_in-same g g' slots [] each = refl
listed_games_in-same g g' slots (game ∷ games) each =
    let in_slots : Games → Pairing → ℕ = λ s (game : Pairing). if slots (round_of s game.home game.away) then 1 else 0 in
    sum_by-cons (in_slots g') game games ∙
    ap (λ (b : Bool). (if b then 1 else 0) + listed_games_in g' slots games) each.0 ∙
    ap (λ (count : ℕ). in_slots g game + count) (listed_games_in-same g g' slots games each.1) ∙
    sym (sum_by-cons (in_slots g) game games)
