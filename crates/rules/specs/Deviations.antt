-- How far a schedule is from each rule. Teams and rounds are numbered from 0.
use Rattle.std.specs.Prelude.{ℕ, zero, suc, ◌+◌, ◌-◌, ◌&&◌, ◌==◌, not, Bool, true, false, List, count_by, min, max, if◌then◌else◌}
use Rattle.std.specs.Bool.{beq}
use Rattle.std.specs.Int.{abs_diff}
use Rattle.league.specs.Sets.{has}
use Rattle.league.specs.Sums.{sum_below, sum_where, count_where}
use Rattle.league.specs.declared.rule.Pairing.{Pairing}
use Rattle.league.specs.declared.rule.RuleBody.{RuleBody}
use Rattle.league.specs.declared.rule.RuleBody.TheVariants.{Ca1, Ca2, Ca3, Ca4, Ga1, Br1, Br2, Se1, Fa2}
use Rattle.league.specs.declared.rule.Side.{Side}
use Rattle.league.specs.declared.rule.Side.TheVariants.{Home, Away, Any}
use Rattle.fixtures.specs.Games.{Games, round_count, round_of, cell, is_home}

-- by how much x is over the most
abbrev pub over : ℕ → ℕ → ℕ
over x most = x - most

-- whether a game counts on this side, for a team that is at home in it or not
abbrev pub is_on_side : Side → Bool → Bool
is_on_side Home home = home
is_on_side Away home = not home
is_on_side Any home = true

-- whether a team's game in a round counts: on this side, and against one of the opponents
unfoldable pub is_counted : Games → Side → (ℕ → Bool) → ℕ → ℕ → Bool
is_counted g side opponents team round =
    is_on_side side (cell g team round).home && opponents (cell g team round).opponent

-- in how many rounds of the slots a team's game counts
unfoldable pub games_of_team : Games → Side → (ℕ → Bool) → (ℕ → Bool) → ℕ → ℕ
games_of_team g side opponents slots team =
    count_where (round_count g.teams) (λ r. slots r && is_counted g side opponents team r)

-- in how many rounds of a window, which begins with its first, a team's game counts
unfoldable pub games_in_window : Games → Side → (ℕ → Bool) → ℕ → ℕ → ℕ → ℕ
games_in_window g side opponents window team first =
    count_where window (λ k. is_counted g side opponents team (first + k))

-- for how many of the teams the game in a round counts
unfoldable pub games_in_round : Games → Side → (ℕ → Bool) → (ℕ → Bool) → ℕ → ℕ
games_in_round g side teams opponents round = count_where g.teams (λ t. teams t && is_counted g side opponents t round)

-- whether a team is on the same side as in the round before, and that side counts
unfoldable pub is_break : Games → Side → ℕ → ℕ → Bool
is_break g side team round =
    not (round == 0) && beq (cell g team (round - 1)).home (cell g team round).home &&
    is_on_side side (cell g team round).home

-- the breaks of a team in the slots
unfoldable pub breaks : Games → ℕ → (ℕ → Bool) → Side → ℕ
breaks g team slots side = count_where (round_count g.teams) (λ r. slots r && is_break g side team r)

-- how many rounds lie strictly between the two games of a pair
unfoldable pub rounds_between : Games → ℕ → ℕ → ℕ
rounds_between g i j = max (round_of g i j) (round_of g j i) - min (round_of g i j) (round_of g j i) - 1

-- how many of the games are in the slots
unfoldable pub listed_games_in : Games → (ℕ → Bool) → List Pairing → ℕ
listed_games_in g slots games = count_by (λ (game : Pairing). slots (round_of g game.home game.away)) games

-- by how much the windows of a team, each of so many consecutive rounds, are over the most
unfoldable pub over_in_windows : Games → Side → (ℕ → Bool) → ℕ → ℕ → ℕ → ℕ
over_in_windows g side opponents window most team =
    sum_below (round_count g.teams + 1 - window)
    (λ first. over (games_in_window g side opponents window team first) most)

-- by how much the rounds between the games of a team and of each lower team are under the least
unfoldable pub short_pairs : Games → (ℕ → Bool) → ℕ → ℕ → ℕ
short_pairs g teams least team =
    sum_below team (λ other. if teams other && teams team then over least (rounds_between g other team) else 0)

-- the home games of a team up to and with a round
unfoldable pub home_games : Games → ℕ → ℕ → ℕ
home_games g team round = count_where (round + 1) (is_home g team)

-- the largest value at a number below n, or 0
unfoldable pub largest_below : ℕ → (ℕ → ℕ) → ℕ
largest_below zero f = 0
largest_below (suc n) f = max (largest_below n f) (f n)

-- by how much two teams' numbers of home games up to and with a round are apart over the most
unfoldable pub gap : Games → ℕ → ℕ → ℕ → ℕ → ℕ
gap g most i j round = over (abs_diff (home_games g i round) (home_games g j round)) most

-- the largest gap of two teams in the slots, or 0 if there is no slot
unfoldable pub worst_gap : Games → (ℕ → Bool) → ℕ → ℕ → ℕ → ℕ
worst_gap g slots most i j = largest_below (round_count g.teams) (λ r. if slots r then gap g most i j r else 0)

-- the worst gaps of a team and of each lower team
unfoldable pub worst_gaps : Games → (ℕ → Bool) → (ℕ → Bool) → ℕ → ℕ → ℕ
worst_gaps g teams slots most team =
    sum_below team (λ other. if teams other && teams team then worst_gap g slots most other team else 0)

-- the deviation of a schedule from a rule
unfoldable pub deviation : Games → RuleBody → ℕ
deviation g (Ca1 teams side slots most) =
    sum_where g.teams (has teams) (λ t. over (games_of_team g side (λ _. true) (has slots) t) most)
deviation g (Ca2 teams1 side teams2 slots most) =
    sum_where g.teams (has teams1) (λ t. over (games_of_team g side (has teams2) (has slots) t) most)
deviation g (Ca3 teams1 side teams2 window most) =
    sum_where g.teams (has teams1) (over_in_windows g side (has teams2) window most)
deviation g (Ca4 teams1 side teams2 slots false most) =
    over (sum_where (round_count g.teams) (has slots) (games_in_round g side (has teams1) (has teams2))) most
deviation g (Ca4 teams1 side teams2 slots true most) =
    sum_where (round_count g.teams) (has slots) (λ r. over (games_in_round g side (has teams1) (has teams2) r) most)
deviation g (Ga1 games slots least most) =
    over (listed_games_in g (has slots) games) most + over least (listed_games_in g (has slots) games)
deviation g (Br1 teams side slots most) =
    sum_where g.teams (has teams) (λ t. over (breaks g t (has slots) side) most)
deviation g (Br2 teams slots most) =
    over (sum_where g.teams (has teams) (λ t. breaks g t (has slots) Any)) most
deviation g (Se1 teams least) =
    sum_below g.teams (short_pairs g (has teams) least)
deviation g (Fa2 teams slots most) =
    sum_below g.teams (worst_gaps g (has teams) (has slots) most)
