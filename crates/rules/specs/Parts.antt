-- The part of a deviation that a change can alter: games of the main teams change, in some rounds, and of their guests,
-- which may meet another main team there than before. Only side teams change their sides.
use Rattle.std.specs.Prelude.{ℕ, ◌+◌, ◌-◌, ◌&&◌, ◌||◌, ◌==◌, not, Bool, true, false, if◌then◌else◌, List}
use Rattle.std.specs.List.{list_any}
use Rattle.league.specs.Limits.{max_rounds}
use Rattle.league.specs.Sets.{has, all_numbers}
use Rattle.league.specs.Sums.{sum_where, sum_of_pairs, any_below}
use Rattle.league.specs.declared.rule.Pairing.{Pairing}
use Rattle.league.specs.declared.rule.RuleBody.{RuleBody}
use Rattle.league.specs.declared.rule.RuleBody.TheVariants.{Ca1, Ca2, Ca3, Ca4, Ga1, Br1, Br2, Se1, Fa2}
use Rattle.league.specs.declared.rule.Side.{Side}
use Rattle.fixtures.specs.Games.{Games, round_count, round_of, cell}
use Rattle.rules.specs.Deviations.{over, games_of_team, games_in_window, games_in_round, breaks, rounds_between, worst_gap, deviation}
use Rattle.rules.specs.LooksPast.{takes_all_or_none}
use Rattle.rules.specs.Touches.{has_touched_team, looks_at_round}

-- whether a team meets one of the teams in a round of the set
unfoldable pub is_guest : Games → (ℕ → Bool) → (ℕ → Bool) → ℕ → Bool
is_guest g main rounds t = any_below (round_count g.teams) (λ r. rounds r && main (cell g t r).opponent)

-- whether a team may meet other opponents of a rule: a main team may, and a guest unless the opponents have all main teams or none
unfoldable pub meets_otherwise : Games → ℕ → ℕ → ℕ → ℕ → Bool
meets_otherwise g main rounds opponents t =
    has main t || (not (takes_all_or_none main opponents) && is_guest g (has main) (has rounds) t)

-- whether other games of a team may count: if all teams are opponents its sides may change, otherwise it may meet others
unfoldable pub counts_otherwise : Games → ℕ → ℕ → ℕ → ℕ → ℕ → Bool
counts_otherwise g main rounds sides opponents t =
    if opponents == all_numbers g.teams then has sides t else meets_otherwise g main rounds opponents t

-- whether a game of the list is one of a main team in a round of the set
unfoldable pub has_moved_game : Games → (ℕ → Bool) → (ℕ → Bool) → List Pairing → Bool
has_moved_game g main rounds games =
    list_any (λ (game : Pairing). (main game.home || main game.away) && rounds (round_of g game.home game.away)) games

-- whether one of the consecutive rounds is in the set
unfoldable pub meets_window : (ℕ → Bool) → ℕ → ℕ → Bool
meets_window rounds window first = any_below window (λ k. rounds (first + k))

-- by how much those windows of a team that have a round of the set are over the most
unfoldable pub over_in_met_windows : Games → Side → (ℕ → Bool) → ℕ → ℕ → (ℕ → Bool) → ℕ → ℕ
over_in_met_windows g side opponents window most rounds team =
    sum_where (round_count g.teams + 1 - window) (meets_window rounds window)
    (λ first. over (games_in_window g side opponents window team first) most)

-- whether both are teams of the rule, and one of them is in the set
abbrev pub is_pair_with : ℕ → ℕ → ℕ → ℕ → Bool
is_pair_with teams set i j = (has teams i && has teams j) && (has set i || has set j)

-- whether one of the two games of a pair is in a round of the set
unfoldable pub meet_in : Games → (ℕ → Bool) → ℕ → ℕ → Bool
meet_in g rounds i j = rounds (round_of g i j) || rounds (round_of g j i)

-- the worst gaps of the pairs of a rule's teams of which one is in the set
unfoldable pub worst_gaps_with : Games → ℕ → ℕ → ℕ → ℕ → ℕ
worst_gaps_with g teams slots most set =
    sum_of_pairs g.teams (λ i j. if is_pair_with teams set i j then worst_gap g (has slots) most i j else 0)

-- the terms of a deviation that a change can alter, if it can alter the deviation
unfoldable pub changing_terms : Games → ℕ → ℕ → ℕ → RuleBody → ℕ
changing_terms g main rounds sides (Ca1 teams side slots most) =
    sum_where g.teams (λ t. has teams t && has sides t)
    (λ t. over (games_of_team g side (λ _. true) (has slots) t) most)
changing_terms g main rounds sides (Ca2 teams1 side teams2 slots most) =
    sum_where g.teams (λ t. has teams1 t && counts_otherwise g main rounds sides teams2 t)
    (λ t. over (games_of_team g side (has teams2) (has slots) t) most)
changing_terms g main rounds sides (Ca3 teams1 side teams2 window most) =
    sum_where g.teams (λ t. has teams1 t && counts_otherwise g main rounds sides teams2 t)
    (over_in_met_windows g side (has teams2) window most (has rounds))
changing_terms g main rounds sides (Ca4 teams1 side teams2 slots false most) =
    if has_touched_team teams1 (counts_otherwise g main rounds sides teams2) then
    deviation g (Ca4 teams1 side teams2 slots false most)
    else 0
changing_terms g main rounds sides (Ca4 teams1 side teams2 slots true most) =
    if has_touched_team teams1 (counts_otherwise g main rounds sides teams2) then
    sum_where (round_count g.teams) (λ r. has slots r && has rounds r)
    (λ r. over (games_in_round g side (has teams1) (has teams2) r) most)
    else 0
changing_terms g main rounds sides (Ga1 games slots least most) =
    if has_moved_game g (has main) (has rounds) games then deviation g (Ga1 games slots least most) else 0
changing_terms g main rounds sides (Br1 teams side slots most) =
    sum_where g.teams (λ t. has teams t && has sides t) (λ t. over (breaks g t (has slots) side) most)
changing_terms g main rounds sides (Br2 teams slots most) =
    if has_touched_team teams (has sides) then deviation g (Br2 teams slots most) else 0
changing_terms g main rounds sides (Se1 teams least) =
    sum_of_pairs g.teams (λ i j.
    if is_pair_with teams main i j && meet_in g (has rounds) i j then over least (rounds_between g i j) else 0)
changing_terms g main rounds sides (Fa2 teams slots most) = worst_gaps_with g teams slots most sides

-- whether the slots lack one of the rounds
unfoldable pub lacks_one : ℕ → (ℕ → Bool) → Bool
lacks_one slots rounds = any_below max_rounds (λ r. rounds r && not (has slots r))

-- whether the rule tells the rounds apart: one that counts games in all slots together does if the slots lack one of them,
-- since a team has the same games in each season
unfoldable pub tells_apart : RuleBody → (ℕ → Bool) → Bool
tells_apart (Ca1 teams side slots most) rounds = lacks_one slots rounds
tells_apart (Ca2 teams1 side teams2 slots most) rounds = lacks_one slots rounds
tells_apart (Ca3 teams1 side teams2 window most) rounds = true
tells_apart (Ca4 teams1 side teams2 slots each most) rounds = each || lacks_one slots rounds
tells_apart (Ga1 games slots least most) rounds = lacks_one slots rounds
tells_apart (Br1 teams side slots most) rounds = true
tells_apart (Br2 teams slots most) rounds = true
tells_apart (Se1 teams least) rounds = true
tells_apart (Fa2 teams slots most) rounds = true

-- whether a change in the rounds can alter a deviation from the rule
unfoldable pub can_alter : RuleBody → (ℕ → Bool) → Bool
can_alter body rounds = looks_at_round body rounds && tells_apart body rounds

-- the part of a deviation that a change can alter
unfoldable pub deviation_part : Games → ℕ → ℕ → ℕ → RuleBody → ℕ
deviation_part g main rounds sides body =
    if can_alter body (has rounds) then changing_terms g main rounds sides body else 0
