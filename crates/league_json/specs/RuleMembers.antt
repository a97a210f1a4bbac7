-- The members of a rule's text. Teams and rounds count from 1 there, and from 0 here.
use Rattle.std.specs.Prelude.{ℕ, ◌-◌, ◌==◌, not, List, [], ◌∷◌, codes, Bool, true, false, Option, Some, None}
use Rattle.std.specs.Prelude.{option_map, option_and_then, if◌then◌else◌}
use Rattle.std.specs.Str.{bytes_eq}
use Rattle.serde_json.specs.Data.{Data, Items, no_items, item}
use Rattle.serde_json.specs.Find.{get, as_str, as_array}
use Rattle.league.specs.declared.rule.Pairing.{Pairing}
use Rattle.league.specs.declared.rule.Side.{Side}
use Rattle.league.specs.declared.rule.Side.TheVariants.{Home, Away, Any}
use Rattle.league.specs.declared.rule.Weight.{Weight}
use Rattle.league.specs.declared.rule.Weight.TheVariants.{Hard, Soft}
use Rattle.league_json.specs.Json.{only_if, number_within, array_of}
use Rattle.league.specs.Sets.{with_number, all_numbers}
use Rattle.league.specs.Games.{with_games}
use Rattle.league.specs.Limits.{round_count, max_weight, max_count}
use Rattle.league_json.specs.Rosters.{RosterData, listed_team}

abbrev pub text_member : List ℕ → Data → Option (List ℕ)
text_member name d = option_and_then as_str (get name d)

-- a number given twice counts once
abbrev pub with_numbers : ℕ → List ℕ → ℕ
with_numbers set [] = set
with_numbers set (x ∷ xs) = with_numbers (with_number set (x - 1)) xs

-- an array of numbers, as a set
abbrev pub set_of : (Data → Option ℕ) → Data → Option ℕ
set_of number d = option_map (with_numbers 0) (array_of number d)

-- an array of teams
abbrev pub team_set : RosterData → Data → Option ℕ
team_set roster = set_of (listed_team roster)

-- an array of numbers of rounds
abbrev pub slot_set : ℕ → Data → Option ℕ
slot_set rounds = set_of (number_within 1 rounds)

abbrev pub teams_member : RosterData → List ℕ → Data → Option ℕ
teams_member roster name d = option_and_then (team_set roster) (get name d)

-- the set, or all numbers below m if none is given
abbrev pub set_or_all : ℕ → (Data → Option ℕ) → Option Data → Option ℕ
set_or_all m set None = Some (all_numbers m)
set_or_all m set (Some d) = set d

-- the opponents, or all teams
abbrev pub opponents_member : RosterData → Data → Option ℕ
opponents_member roster d = set_or_all roster.teams (team_set roster) (get (codes "teams2") d)

-- the rounds, or all of them
abbrev pub slots_member : ℕ → Data → Option ℕ
slots_member n d = set_or_all (round_count n) (slot_set (round_count n)) (get (codes "slots") d)

abbrev pub count_member : List ℕ → Data → Option ℕ
count_member name d = option_and_then (number_within 0 max_count) (get name d)

-- so many rounds in a row: one at least, and all at most
abbrev pub window_member : ℕ → Data → Option ℕ
window_member n d = option_and_then (number_within 1 (round_count n)) (get (codes "intp") d)

abbrev pub one_side : List ℕ → Option Side
one_side mode =
    if bytes_eq mode (codes "H") then Some Home else
    (if bytes_eq mode (codes "A") then Some Away else None)

abbrev pub any_side : List ℕ → Option Side
any_side mode = if bytes_eq mode (codes "HA") then Some Any else one_side mode

abbrev pub one_side_member : Data → Option Side
one_side_member d = option_and_then one_side (text_member (codes "mode") d)

abbrev pub any_side_member : Data → Option Side
any_side_member d = option_and_then any_side (text_member (codes "mode") d)

-- whether it is each slot that is limited, and not all of them together
abbrev pub is_each : List ℕ → Option Bool
is_each mode =
    if bytes_eq mode (codes "EVERY") then Some true else
    (if bytes_eq mode (codes "GLOBAL") then Some false else None)

abbrev pub each_member : Data → Option Bool
each_member d = option_and_then is_each (text_member (codes "mode2") d)

-- two distinct teams, the home team first
abbrev pub pairing_from_items : RosterData → Items → Option Pairing
pairing_from_items roster no_items = None
pairing_from_items roster (item home no_items) = None
pairing_from_items roster (item home (item away no_items)) =
    option_and_then (λ h. option_and_then (λ a. only_if (not (h == a)) (record { home = h - 1; away = a - 1 })) (listed_team roster away))
    (listed_team roster home)
pairing_from_items roster (item home (item away (item more items))) = None

abbrev pub pairing_from : RosterData → Data → Option Pairing
pairing_from roster d = option_and_then (pairing_from_items roster) (as_array d)

-- a game given twice counts once
abbrev pub games_member : RosterData → Data → Option (List Pairing)
games_member roster d =
    option_and_then (λ games. option_map (with_games []) (array_of (pairing_from roster) games)) (get (codes "games") d)

abbrev pub soft_weight : Data → Option Weight
soft_weight d = option_map Soft (option_and_then (number_within 1 max_weight) (get (codes "weight") d))

abbrev pub weight_of_kind : Data → List ℕ → Option Weight
weight_of_kind d kind =
    if bytes_eq kind (codes "hard") then Some Hard else
    (if bytes_eq kind (codes "soft") then soft_weight d else None)

abbrev pub weight_of : Data → Option Weight
weight_of d = option_and_then (weight_of_kind d) (text_member (codes "kind") d)
