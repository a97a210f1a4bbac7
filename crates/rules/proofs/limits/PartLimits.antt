-- A part of a deviation is at most the whole.
use Rattle.std.proofs.Common.{ℕ, ◌+◌, ◌-◌, ◌<◌, ◌≤◌, ◌&&◌, ◌||◌, Bool, true, false, if◌then◌else◌, arith}
use Rattle.league.specs.Limits.{max_teams, deviation_limit}
use Rattle.league.specs.Sets.{has}
use Rattle.league.specs.Sums.{sum_below, sum_where}
use Rattle.league.specs.RuleLimits.{IsBodyFor}
use Rattle.league.specs.declared.rule.RuleBody.{RuleBody}
use Rattle.league.specs.declared.rule.RuleBody.TheVariants.{Ca1, Ca2, Ca3, Ca4, Ga1, Br1, Br2, Se1, Fa2}
use Rattle.league.specs.declared.rule.Side.{Side}
use Rattle.league.proofs.ForCallers.{sum_below_le_each}
use Rattle.fixtures.specs.Games.{Games, round_count}
use Rattle.rules.specs.Deviations.{over, games_of_team, games_in_window, games_in_round, breaks, rounds_between, over_in_windows}
use Rattle.rules.specs.Deviations.{short_pairs, worst_gap, worst_gaps, deviation}
use Rattle.rules.specs.Parts.{counts_otherwise, over_in_met_windows, meets_window, is_pair_with, meet_in, worst_gaps_with}
use Rattle.rules.specs.Parts.{changing_terms, can_alter, deviation_part}
use Rattle.rules.proofs.limits.Limits.{deviation_below}

fewer : (test inside : Bool) (x y : ℕ) → x ≤ y → (if test && inside then x else 0) ≤ (if test then y else 0)
fewer true true x y le = le
fewer true false x y le = omega arith
fewer false inside x y le = omega arith

or_none : (b : Bool) (x y : ℕ) → x ≤ y → (if b then x else 0) ≤ y
or_none true x y le = le
or_none false x y le = omega arith

some_le : (n : ℕ) (test inside : ℕ → Bool) (f h : ℕ → ℕ) → ((k : ℕ) → f k ≤ h k) →
    sum_where n (λ k. test k && inside k) f ≤ sum_where n test h
some_le n test inside f h each =
    sum_below_le_each n (λ k. if test k && inside k then f k else 0) (λ k. if test k then h k else 0)
    (λ k below. fewer (test k) (inside k) (f k) (h k) (each k))

le_self : (x : ℕ) → x ≤ x
le_self x = omega arith

some_of : (n : ℕ) (test inside : ℕ → Bool) (f : ℕ → ℕ) → sum_where n (λ k. test k && inside k) f ≤ sum_where n test f
some_of n test inside f = some_le n test inside f f (λ k. le_self (f k))

windows_le : (g : Games) (side : Side) (opponents : ℕ → Bool) (window most : ℕ) (rounds : ℕ → Bool) (t : ℕ) →
    over_in_met_windows g side opponents window most rounds t ≤ over_in_windows g side opponents window most t
unfolding over_in_windows over_in_met_windows
windows_le g side opponents window most rounds t =
    some_of (round_count g.teams + 1 - window) (λ _. true) (meets_window rounds window)
    (λ first. over (games_in_window g side opponents window t first) most)

terms_le : (g : Games) (main rounds sides : ℕ) (body : RuleBody) → changing_terms g main rounds sides body ≤ deviation g body
unfolding deviation changing_terms short_pairs worst_gaps worst_gaps_with
terms_le g main rounds sides (Ca1 teams side slots most) =
    some_of g.teams (has teams) (has sides) (λ t. over (games_of_team g side (λ _. true) (has slots) t) most)
terms_le g main rounds sides (Ca2 teams1 side teams2 slots most) =
    some_of g.teams (has teams1) (counts_otherwise g main rounds sides teams2)
    (λ t. over (games_of_team g side (has teams2) (has slots) t) most)
terms_le g main rounds sides (Ca3 teams1 side teams2 window most) =
    some_le g.teams (has teams1) (counts_otherwise g main rounds sides teams2) _ (over_in_windows g side (has teams2) window most)
    (windows_le g side (has teams2) window most (has rounds))
terms_le g main rounds sides (Ca4 teams1 side teams2 slots false most) = or_none _ _ _ (le_self _)
terms_le g main rounds sides (Ca4 teams1 side teams2 slots true most) =
    or_none _ _ _
    (some_of (round_count g.teams) (has slots) (has rounds) (λ r. over (games_in_round g side (has teams1) (has teams2) r) most))
terms_le g main rounds sides (Ga1 games slots least most) = or_none _ _ _ (le_self _)
terms_le g main rounds sides (Br1 teams side slots most) =
    some_of g.teams (has teams) (has sides) (λ t. over (breaks g t (has slots) side) most)
terms_le g main rounds sides (Br2 teams slots most) = or_none _ _ _ (le_self _)
terms_le g main rounds sides (Se1 teams least) =
    sum_below_le_each g.teams
    (λ j. sum_below j (λ i.
    if is_pair_with teams main i j && meet_in g (has rounds) i j then over least (rounds_between g i j) else 0))
    (λ j. sum_below j (λ i. if has teams i && has teams j then over least (rounds_between g i j) else 0))
    (λ j below. omega (
      arith,
      some_of j (λ i. is_pair_with teams main i j) (λ i. meet_in g (has rounds) i j) (λ i. over least (rounds_between g i j)),
      some_of j (λ i. has teams i && has teams j) (λ i. has main i || has main j) (λ i. over least (rounds_between g i j)),
    ))
terms_le g main rounds sides (Fa2 teams slots most) =
    sum_below_le_each g.teams
    (λ j. sum_below j (λ i. if is_pair_with teams sides i j then worst_gap g (has slots) most i j else 0))
    (λ j. sum_below j (λ i. if has teams i && has teams j then worst_gap g (has slots) most i j else 0))
    (λ j below.
    some_of j (λ i. has teams i && has teams j) (λ i. has sides i || has sides j) (λ i. worst_gap g (has slots) most i j))

pub terms_below : (g : Games) (main rounds sides : ℕ) (body : RuleBody) → g.teams ≤ max_teams → IsBodyFor g.teams body →
    changing_terms g main rounds sides body < deviation_limit
terms_below g main rounds sides body forty is = omega (arith, terms_le g main rounds sides body, deviation_below g body forty is)

pub part_le : (g : Games) (main rounds sides : ℕ) (body : RuleBody) → deviation_part g main rounds sides body ≤ deviation g body
unfolding deviation_part
part_le g main rounds sides body = or_none (can_alter body (has rounds)) _ _ (terms_le g main rounds sides body)
