-- The five moves: which are refused, what each makes of a double round robin, and which teams and rounds it touches.
use Rattle.std.specs.Prelude.{ℕ, Bool, true, false, not, ◌&&◌, ◌||◌, ◌==◌, nat_lt, if◌then◌else◌, Result, Ok, Err}
use Rattle.fixtures.specs.Games.{Games, round_of, round_count}
use Rattle.fixtures.specs.Edits.{homes_exchanged, rounds_exchanged, teams_exchanged, all_games_exchanged}
use Rattle.fixtures.specs.Closed.{member, moved_teams_of, moved_rounds_of}
use Rattle.moves.specs.declared.moves.Move.{Move}
use Rattle.moves.specs.declared.moves.Move.TheVariants.{Homes, Rounds, Teams, PartRounds, PartTeams}
use Rattle.moves.specs.declared.moves.MoveKind.{MoveKind}
use Rattle.moves.specs.declared.moves.MoveKind.TheVariants as kind
use Rattle.moves.specs.declared.fault.MoveFault.{MoveFault}
use Rattle.moves.specs.declared.fault.MoveFault.TheVariants.{BadMove, Meet}

-- which of the five moves it is
abbrev pub kind_of : Move → MoveKind
kind_of (Homes i j) = kind.Homes
kind_of (Rounds k l) = kind.Rounds
kind_of (Teams i j) = kind.Teams
kind_of (PartRounds i k l) = kind.PartRounds
kind_of (PartTeams i j k) = kind.PartTeams

-- two distinct numbers below n
abbrev pub are_distinct_below : ℕ → ℕ → ℕ → Bool
are_distinct_below n i j = nat_lt i n && nat_lt j n && not (i == j)

-- whether the numbers of the move are in range, and the two that it exchanges distinct
abbrev pub is_in_range : Games → Move → Bool
is_in_range g (Homes i j) = are_distinct_below g.teams i j
is_in_range g (Rounds k l) = are_distinct_below (round_count g.teams) k l
is_in_range g (Teams i j) = are_distinct_below g.teams i j
is_in_range g (PartRounds i k l) = nat_lt i g.teams && are_distinct_below (round_count g.teams) k l
is_in_range g (PartTeams i j k) = are_distinct_below g.teams i j && nat_lt k (round_count g.teams)

-- whether the two teams of a partial exchange of teams meet in its round
abbrev pub meets : Games → Move → Bool
meets g (PartTeams i j k) = round_of g i j == k || round_of g j i == k
meets g _ = false

-- why a move is refused
abbrev pub fault_of : Games → Move → Result (Unit {0}) MoveFault
fault_of g mv = if not (is_in_range g mv) then Err BadMove else if meets g mv then Err Meet else Ok tt

-- the schedule after the move
abbrev pub moved : Games → Move → Games
moved g (Homes i j) = homes_exchanged g i j
moved g (Rounds k l) = rounds_exchanged g k l (λ _. true)
moved g (Teams i j) = all_games_exchanged g i j
moved g (PartRounds i k l) = rounds_exchanged g k l (member (moved_teams_of g i k l))
moved g (PartTeams i j k) = teams_exchanged g i j (member (moved_rounds_of g i j k))

-- the teams with a cell that differs between before and after
abbrev pub touched_team : Games → Move → ℕ → Bool
touched_team g (Homes i j) t = t == i || t == j
touched_team g (Rounds k l) t = nat_lt t g.teams
touched_team g (Teams i j) t = nat_lt t g.teams
touched_team g (PartRounds i k l) t = member (moved_teams_of g i k l) t
touched_team g (PartTeams i j k) t =
    t == i || t == j ||
    (nat_lt t g.teams &&
    (let R = member (moved_rounds_of g i j k) in
    R (round_of g i t) || R (round_of g t i) || R (round_of g j t) || R (round_of g t j)))

-- the rounds with a cell that differs
abbrev pub touched_round : Games → Move → ℕ → Bool
touched_round g (Homes i j) r = r == round_of g i j || r == round_of g j i
touched_round g (Rounds k l) r = r == k || r == l
touched_round g (Teams i j) r = nat_lt r (round_count g.teams) && not (r == round_of g i j || r == round_of g j i)
touched_round g (PartRounds i k l) r = r == k || r == l
touched_round g (PartTeams i j k) r = member (moved_rounds_of g i j k) r
