-- What the classes of rules ask of a rule's members, as tests by the words that read them.
use Rattle.std.specs.Prelude.{ℕ, ◌||◌, ◌==◌, List, length, if◌then◌else◌, codes, Bool, true, false, nat_le, Option, Some, None, is_some}
use Rattle.std.specs.Str.{bytes_eq}
use Rattle.serde_json.specs.Data.{Data}
use Rattle.league.specs.Limits.{round_count, max_weight, max_count}
use Rattle.league_json.specs.Rosters.{RosterData}
use Rattle.league_json.specs.RuleMembers.{text_member, teams_member, opponents_member, slots_member, count_member, window_member}
use Rattle.league_json.specs.RuleMembers.{one_side_member, any_side_member, each_member, games_member, weight_of}
use Rattle.league_hints.specs.declared.place.RuleMember.{RuleMember}
use Rattle.league_hints.specs.declared.place.RuleMember.TheVariants as member
use Rattle.league_hints.specs.declared.wanted.Wanted.{Wanted}
use Rattle.league_hints.specs.declared.wanted.Wanted.TheVariants as wanted
use Rattle.league_hints.specs.declared.needs.Need.{Need}
use Rattle.league_hints.specs.declared.needs.Need.TheVariants as need
use Rattle.league_hints.specs.Lines.{rule_member_name}

abbrev pub member_of : Need → RuleMember
member_of need.Kind = member.Kind
member_of need.Weight = member.Weight
member_of (need.Teams m) = m
member_of need.Opponents = member.Teams2
member_of need.Slots = member.Slots
member_of need.HomeOrAway = member.Mode
member_of need.Side = member.Mode
member_of need.SlotChoice = member.Mode2
member_of need.Games = member.Games
member_of need.Window = member.Intp
member_of (need.Count m) = m
member_of need.MaxFromMin = member.Max

-- a list of teams, by number or by name too
abbrev pub wanted_teams : RosterData → Wanted
wanted_teams roster = if length roster.names == 0 then wanted.Teams roster.teams else wanted.Listed roster.teams

abbrev pub wanted_games : RosterData → Wanted
wanted_games roster = if length roster.names == 0 then wanted.Games roster.teams else wanted.ListedGames roster.teams

-- what that has to be in a rule of these teams
abbrev pub wanted_of : RosterData → Need → Wanted
wanted_of roster need.Kind = wanted.Kind
wanted_of roster need.Weight = wanted.Number 1 max_weight
wanted_of roster (need.Teams m) = wanted_teams roster
wanted_of roster need.Opponents = wanted_teams roster
wanted_of roster need.Slots = wanted.Rounds (round_count roster.teams)
wanted_of roster need.HomeOrAway = wanted.HomeOrAway
wanted_of roster need.Side = wanted.Side
wanted_of roster need.SlotChoice = wanted.SlotChoice
wanted_of roster need.Games = wanted_games roster
wanted_of roster need.Window = wanted.Number 1 (round_count roster.teams)
wanted_of roster (need.Count m) = wanted.Number 0 max_count
wanted_of roster need.MaxFromMin = wanted.FromMin

-- a kind that there is
abbrev pub is_kind : Option (List ℕ) → Bool
is_kind None = false
is_kind (Some kind) = bytes_eq kind (codes "hard") || bytes_eq kind (codes "soft")

-- a least and a most number, if both are there, are in order
abbrev pub are_in_order : Option ℕ → Option ℕ → Bool
are_in_order (Some min) (Some max) = nat_le min max
are_in_order (Some min) None = true
are_in_order None max = true

-- whether a rule of these teams meets a need
abbrev pub is_met : RosterData → Data → Need → Bool
is_met roster d need.Kind = is_kind (text_member (codes "kind") d)
is_met roster d need.Weight = is_some (weight_of d)
is_met roster d (need.Teams m) = is_some (teams_member roster (rule_member_name m) d)
is_met roster d need.Opponents = is_some (opponents_member roster d)
is_met roster d need.Slots = is_some (slots_member roster.teams d)
is_met roster d need.HomeOrAway = is_some (one_side_member d)
is_met roster d need.Side = is_some (any_side_member d)
is_met roster d need.SlotChoice = is_some (each_member d)
is_met roster d need.Games = is_some (games_member roster d)
is_met roster d need.Window = is_some (window_member roster.teams d)
is_met roster d (need.Count m) = is_some (count_member (rule_member_name m) d)
is_met roster d need.MaxFromMin = are_in_order (count_member (codes "min") d) (count_member (codes "max") d)
