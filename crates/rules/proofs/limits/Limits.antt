-- How far a schedule is from a rule whose numbers are in range, at most.
use Rattle.std.proofs.Common.{ℕ, zero, suc, ◌+◌, ◌-◌, ◌*◌, ◌<◌, ◌≤◌, ◌&&◌, Bool, true, false, if◌then◌else◌, List, length, arith}
use Rattle.std.proofs.Math.Nat.{mul-le-mul, mul-le-mul_left}
use Rattle.std.proofs.lemmas.List.Sums.{count_by-le-length}
use Rattle.league.specs.Limits.{max_teams, max_count, deviation_limit, max_rounds, max_games}
use Rattle.league.specs.Sets.{has}
use Rattle.league.specs.Sums.{sum_below, sum_where}
use Rattle.league.specs.RuleLimits.{IsBodyFor}
use Rattle.league.specs.declared.rule.Pairing.{Pairing}
use Rattle.league.specs.declared.rule.RuleBody.{RuleBody}
use Rattle.league.specs.declared.rule.RuleBody.TheVariants.{Ca1, Ca2, Ca3, Ca4, Ga1, Br1, Br2, Se1, Fa2}
use Rattle.league.specs.declared.rule.Side.{Side}
use Rattle.league.specs.declared.rule.Side.TheVariants.{Any}
use Rattle.league.proofs.ForCallers.{sum_below_le, sum_below_le_each, sum_where_le, count_where_le, if_le}
use Rattle.fixtures.specs.Games.{Games, round_count, round_of, is_home}
use Rattle.rules.specs.Deviations.{over, is_counted, games_of_team, games_in_window, games_in_round, is_break, breaks, rounds_between}
use Rattle.rules.specs.Deviations.{listed_games_in, over_in_windows, short_pairs, deviation, home_games, gap, worst_gap, worst_gaps}
use Rattle.rules.proofs.limits.Largest.{largest_below_le}

count_in_le : (g : Games) (side : Side) (opponents slots : ℕ → Bool) (team : ℕ) →
    games_of_team g side opponents slots team ≤ round_count g.teams
unfolding games_of_team
count_in_le g side opponents slots team =
    count_where_le (round_count g.teams) (λ r. slots r && is_counted g side opponents team r)

count_at_le : (g : Games) (side : Side) (teams opponents : ℕ → Bool) (round : ℕ) →
    games_in_round g side teams opponents round ≤ g.teams
unfolding games_in_round
count_at_le g side teams opponents round = count_where_le g.teams (λ t. teams t && is_counted g side opponents t round)

count_in_window_le : (g : Games) (side : Side) (opponents : ℕ → Bool) (window team first : ℕ) →
    games_in_window g side opponents window team first ≤ window
unfolding games_in_window
count_in_window_le g side opponents window team first =
    count_where_le window (λ k. is_counted g side opponents team (first + k))

over_in_windows_le : (g : Games) (side : Side) (opponents : ℕ → Bool) (window most team : ℕ) → g.teams ≤ max_teams →
    window ≤ round_count g.teams → over_in_windows g side opponents window most team ≤ 6162
unfolding over_in_windows
over_in_windows_le g side opponents window most team forty within =
    omega (
      arith,
      sum_below_le (round_count g.teams + 1 - window) max_rounds
          (λ first. over (games_in_window g side opponents window team first) most)
          (λ first under. omega (arith, count_in_window_le g side opponents window team first)),
    )

breaks_le : (g : Games) (team : ℕ) (slots : ℕ → Bool) (side : Side) → breaks g team slots side ≤ round_count g.teams
unfolding breaks
breaks_le g team slots side = count_where_le (round_count g.teams) (λ r. slots r && is_break g side team r)

games_in_le : (g : Games) (slots : ℕ → Bool) (games : List Pairing) → listed_games_in g slots games ≤ length games
unfolding listed_games_in
games_in_le g slots games = count_by-le-length (λ (game : Pairing). slots (round_of g game.home game.away)) games

short_pairs_le : (g : Games) (teams : ℕ → Bool) (least team : ℕ) → least ≤ max_count → short_pairs g teams least team ≤ team * 10000
unfolding short_pairs
short_pairs_le g teams least team few =
    sum_below_le team 10000 (λ other. if teams other && teams team then over least (rounds_between g other team) else 0)
    (λ other under. if_le (teams other && teams team) (over least (rounds_between g other team)) 10000 (λ _. omega arith))

home_games_le : (g : Games) (team round : ℕ) → home_games g team round ≤ round + 1
unfolding home_games
home_games_le g team round = count_where_le (round + 1) (is_home g team)

gap_le : (g : Games) (most i j round : ℕ) → gap g most i j round ≤ round + 1
unfolding gap
gap_le g most i j round = omega (arith, home_games_le g i round, home_games_le g j round)

worst_gap_le : (g : Games) (slots : ℕ → Bool) (most i j : ℕ) → worst_gap g slots most i j ≤ round_count g.teams
unfolding worst_gap
worst_gap_le g slots most i j =
    largest_below_le (round_count g.teams) (round_count g.teams) (λ r. if slots r then gap g most i j r else 0)
    (λ r below. if_le (slots r) (gap g most i j r) (round_count g.teams) (λ _. omega (arith, gap_le g most i j r)))

pub worst_gaps_le : (g : Games) (teams slots : ℕ → Bool) (most team : ℕ) → g.teams ≤ max_teams →
    worst_gaps g teams slots most team ≤ team * max_rounds
unfolding worst_gaps
worst_gaps_le g teams slots most team forty =
    sum_below_le team max_rounds (λ other. if teams other && teams team then worst_gap g slots most other team else 0)
    (λ other lower. if_le (teams other && teams team) (worst_gap g slots most other team) max_rounds
    (λ _. omega (arith, forty, worst_gap_le g slots most other team)))

-- 10,000 for each pair below n, twice
triangle : (n : ℕ) → 2 * sum_below n (λ t. t * 10000) ≤ n * (n * 10000)
unfolding sum_below
triangle zero = omega arith
triangle (suc n) = omega (arith, triangle n)

-- over some of the teams, and over some of the rounds
over_teams_le : (g : Games) (test : ℕ → Bool) (f : ℕ → ℕ) (most : ℕ) → g.teams ≤ max_teams → most ≤ 6162 →
    ((t : ℕ) → f t ≤ most) → sum_where g.teams test f ≤ 246480
over_teams_le g test f most forty few each =
    omega (arith, sum_where_le g.teams 6162 test f (λ t under is. omega (arith, each t)))

over_rounds_le : (g : Games) (test : ℕ → Bool) (f : ℕ → ℕ) → g.teams ≤ max_teams → ((r : ℕ) → f r ≤ g.teams) →
    sum_where (round_count g.teams) test f ≤ max_teams * max_rounds
over_rounds_le g test f forty each =
    omega (arith, sum_where_le (round_count g.teams) max_teams test f (λ r under is. omega (arith, each r)))

pub deviation_below : (g : Games) (body : RuleBody) → g.teams ≤ max_teams → IsBodyFor g.teams body → deviation g body < deviation_limit
unfolding deviation
deviation_below g (Ca1 teams side slots most) forty is =
    omega (
      arith,
      over_teams_le g (has teams) (λ t. over (games_of_team g side (λ _. true) (has slots) t) most) max_rounds forty (omega arith)
          (λ t. omega (arith, count_in_le g side (λ _. true) (has slots) t)),
    )
deviation_below g (Ca2 teams1 side teams2 slots most) forty is =
    omega (
      arith,
      over_teams_le g (has teams1) (λ t. over (games_of_team g side (has teams2) (has slots) t) most) max_rounds forty (omega arith)
          (λ t. omega (arith, count_in_le g side (has teams2) (has slots) t)),
    )
deviation_below g (Ca3 teams1 side teams2 window most) forty is =
    let within : window ≤ round_count g.teams = is.3 in
    omega (
      arith,
      over_teams_le g (has teams1) (over_in_windows g side (has teams2) window most) 6162 forty (omega arith)
          (λ t. over_in_windows_le g side (has teams2) window most t forty within),
    )
deviation_below g (Ca4 teams1 side teams2 slots false most) forty is =
    omega (
      arith,
      over_rounds_le g (has slots) (games_in_round g side (has teams1) (has teams2)) forty
          (count_at_le g side (has teams1) (has teams2)),
    )
deviation_below g (Ca4 teams1 side teams2 slots true most) forty is =
    omega (
      arith,
      over_rounds_le g (has slots) (λ r. over (games_in_round g side (has teams1) (has teams2) r) most) forty
          (λ r. omega (arith, count_at_le g side (has teams1) (has teams2) r)),
    )
deviation_below g (Ga1 games slots least most) forty is =
    let len : length games ≤ max_games = is.1 in
    let least_le : least ≤ most = is.3 in
    let most_le : most ≤ 10000 = is.4 in
    omega (arith, games_in_le g (has slots) games)
deviation_below g (Br1 teams side slots most) forty is =
    omega (
      arith,
      over_teams_le g (has teams) (λ t. over (breaks g t (has slots) side) most) max_rounds forty (omega arith)
          (λ t. omega (arith, breaks_le g t (has slots) side)),
    )
deviation_below g (Br2 teams slots most) forty is =
    omega (
      arith,
      over_teams_le g (has teams) (λ t. breaks g t (has slots) Any) max_rounds forty (omega arith)
          (λ t. omega (arith, breaks_le g t (has slots) Any)),
    )
deviation_below g (Se1 teams least) forty is =
    let few : least ≤ 10000 = is.1 in
    omega (
      arith,
      triangle g.teams,
      mul-le-mul forty (mul-le-mul_left 10000 forty),
      sum_below_le_each g.teams (short_pairs g (has teams) least) (λ t. t * 10000)
          (λ t under. short_pairs_le g (has teams) least t few),
    )
deviation_below g (Fa2 teams slots most) forty is =
    omega (
      arith,
      forty,
      sum_below_le g.teams (max_teams * max_rounds) (worst_gaps g (has teams) (has slots) most)
          (λ t under. omega (arith, forty, under, worst_gaps_le g (has teams) (has slots) most t forty)),
    )
