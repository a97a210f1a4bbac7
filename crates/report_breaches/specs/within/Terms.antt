-- The terms of a deviation in rows, as private functions walk them: words of theirs alone.
use Rattle.std.specs.Prelude.{ℕ, ◌+◌, ◌-◌, ◌<◌, ◌≤◌, ◌&&◌, ◌==◌, Bool, true, false, if◌then◌else◌, List}
use Rattle.league.specs.Sets.{has}
use Rattle.league.specs.Sums.{count_where, sum_below, sum_where}
use Rattle.league.specs.declared.rule.RuleBody.{RuleBody}
use Rattle.league.specs.declared.rule.RuleBody.TheVariants.{Ca1, Ca2, Ca3, Ca4, Ga1, Br1, Br2, Se1, Fa2}
use Rattle.league.specs.declared.rule.Side.TheVariants.{Any}
use Rattle.fixtures.specs.Games.{Games, round_count}
use Rattle.rules.specs.Deviations.{over, games_of_team, games_in_window, games_in_round, listed_games_in, breaks, rounds_between}
use Rattle.rules.specs.Deviations.{worst_gap}
use Rattle.report_breaches.specs.declared.breach.Breach.{Breach}
use Rattle.report_breaches.specs.declared.breach.Place.{Place}
use Rattle.report_breaches.specs.declared.breach.Place.TheVariants.{GamesOf, BreaksOf, Window, Round, Together, GamesOver, GamesUnder, Pair}
use Rattle.report_breaches.specs.declared.breach.Place.TheVariants.{PairIn}
use Rattle.report_breaches.specs.Breaches.{breach_at, breaches_below, window_at, worst_at}
use Rattle.report_breaches.specs.Cells.{names_cell}

-- a row for each team, round or listed side, or for all together
abbrev pub row_count : Games → RuleBody → ℕ
row_count g (Ca1 teams side slots most) = g.teams
row_count g (Ca2 teams1 side teams2 slots most) = g.teams
row_count g (Ca3 teams1 side teams2 window most) = g.teams
row_count g (Ca4 teams1 side teams2 slots false most) = 1
row_count g (Ca4 teams1 side teams2 slots true most) = round_count g.teams
row_count g (Ga1 games slots least most) = 2
row_count g (Br1 teams side slots most) = g.teams
row_count g (Br2 teams slots most) = 1
row_count g (Se1 teams least) = g.teams
row_count g (Fa2 teams slots most) = g.teams

-- a column for each window of a team and for each lower team of a pair, and one otherwise
abbrev pub column_count : Games → RuleBody → ℕ → ℕ
column_count g (Ca3 teams1 side teams2 window most) row = round_count g.teams + 1 - window
column_count g (Se1 teams least) row = row
column_count g (Fa2 teams slots most) row = row
column_count g other row = 1

abbrev pub place_at : Games → RuleBody → ℕ → ℕ → Place
place_at g (Ca1 teams side slots most) row column = GamesOf row
place_at g (Ca2 teams1 side teams2 slots most) row column = GamesOf row
place_at g (Ca3 teams1 side teams2 window most) row column = window_at window row column
place_at g (Ca4 teams1 side teams2 slots false most) row column = Together
place_at g (Ca4 teams1 side teams2 slots true most) row column = Round row
place_at g (Ga1 games slots least most) row column = if row == 0 then GamesOver else GamesUnder
place_at g (Br1 teams side slots most) row column = BreaksOf row
place_at g (Br2 teams slots most) row column = Together
place_at g (Se1 teams least) row column = Pair column row
place_at g (Fa2 teams slots most) row column = worst_at g (has slots) most row column

-- whether its team, its round or its teams are of the rule
abbrev pub is_of_rule : RuleBody → ℕ → ℕ → Bool
is_of_rule (Ca1 teams side slots most) row column = has teams row
is_of_rule (Ca2 teams1 side teams2 slots most) row column = has teams1 row
is_of_rule (Ca3 teams1 side teams2 window most) row column = has teams1 row
is_of_rule (Ca4 teams1 side teams2 slots false most) row column = true
is_of_rule (Ca4 teams1 side teams2 slots true most) row column = has slots row
is_of_rule (Ga1 games slots least most) row column = true
is_of_rule (Br1 teams side slots most) row column = has teams row
is_of_rule (Br2 teams slots most) row column = true
is_of_rule (Se1 teams least) row column = has teams column && has teams row
is_of_rule (Fa2 teams slots most) row column = has teams column && has teams row

-- by how much the limit is broken
abbrev pub amount : Games → RuleBody → ℕ → ℕ → ℕ
amount g (Ca1 teams side slots most) row column = over (games_of_team g side (λ _. true) (has slots) row) most
amount g (Ca2 teams1 side teams2 slots most) row column = over (games_of_team g side (has teams2) (has slots) row) most
amount g (Ca3 teams1 side teams2 window most) row column = over (games_in_window g side (has teams2) window row column) most
amount g (Ca4 teams1 side teams2 slots false most) row column =
    over (sum_where (round_count g.teams) (has slots) (games_in_round g side (has teams1) (has teams2))) most
amount g (Ca4 teams1 side teams2 slots true most) row column = over (games_in_round g side (has teams1) (has teams2) row) most
amount g (Ga1 games slots least most) row column =
    if row == 0 then over (listed_games_in g (has slots) games) most else over least (listed_games_in g (has slots) games)
amount g (Br1 teams side slots most) row column = over (breaks g row (has slots) side) most
amount g (Br2 teams slots most) row column = over (sum_where g.teams (has teams) (λ t. breaks g t (has slots) Any)) most
amount g (Se1 teams least) row column = over least (rounds_between g column row)
amount g (Fa2 teams slots most) row column = worst_gap g (has slots) most column row

abbrev pub term : Games → RuleBody → ℕ → ℕ → ℕ
term g body row column = if is_of_rule body row column then amount g body row column else 0

-- in how many rounds, from the first on and before one that is past, a place names a team's game
abbrev pub named_of_team : Games → RuleBody → Place → ℕ → ℕ → ℕ → ℕ
named_of_team g body place team first past = count_where (past - first) (λ k. names_cell g body place team (first + k))

-- for how many teams it names the game in a round
abbrev pub named_in_round : Games → RuleBody → Place → ℕ → ℕ
named_in_round g body place round = count_where g.teams (λ t. names_cell g body place t round)

-- how many games of teams a place names
abbrev pub named_at : Games → RuleBody → Place → ℕ
named_at g body (GamesOf team) = named_of_team g body (GamesOf team) team 0 (round_count g.teams)
named_at g body (Window team first last) = named_of_team g body (Window team first last) team first (last + 1)
named_at g body (Round round) = named_in_round g body (Round round) round
named_at g body place = sum_below (round_count g.teams) (named_in_round g body place)

-- the breach of a term, if it is above 0
abbrev pub breach_in : Games → RuleBody → ℕ → ℕ → List Breach
breach_in g body row column = breach_at (place_at g body row column) (term g body row column)

abbrev pub breaches_in_row : Games → RuleBody → ℕ → List Breach
breaches_in_row g body row = breaches_below (column_count g body row) (breach_in g body row)

-- its numbers are those of teams and rounds
abbrev pub IsPlaceFor : ℕ → Place → Type 0
IsPlaceFor n (GamesOf team) = team < n
IsPlaceFor n (BreaksOf team) = team < n
IsPlaceFor n (Window team first last) = (team < n) × (first ≤ last) × (last < round_count n)
IsPlaceFor n (Round round) = round < round_count n
IsPlaceFor n Together = Unit {0}
IsPlaceFor n GamesOver = Unit {0}
IsPlaceFor n GamesUnder = Unit {0}
IsPlaceFor n (Pair low high) = (low < high) × (high < n)
IsPlaceFor n (PairIn low high round) = (low < high) × (high < n) × (round < round_count n)
