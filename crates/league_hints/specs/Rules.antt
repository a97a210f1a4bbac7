-- Which member of a rule is wrong, and what is wanted.
use Rattle.std.specs.Prelude.{ℕ, ◌+◌, List, [], ◌∷◌, codes, Bool, false, Option, Some, None, option_map}
use Rattle.std.specs.Prelude.{option_and_then, if◌then◌else◌}
use Rattle.std.specs.Option.{unwrap_or}
use Rattle.std.specs.Str.{bytes_eq}
use Rattle.serde_json.specs.Data.{Data}
use Rattle.serde_json.specs.Find.{as_array, get}
use Rattle.league_json.specs.Rosters.{RosterData}
use Rattle.league_json.specs.RuleMembers.{text_member}
use Rattle.league_hints.specs.declared.hint.Hint.{Hint}
use Rattle.league_hints.specs.declared.hint.Hint.TheVariants as hint
use Rattle.league_hints.specs.declared.place.Place.TheVariants.{Member}
use Rattle.league_hints.specs.declared.place.RuleMember.{RuleMember}
use Rattle.league_hints.specs.declared.place.RuleMember.TheVariants as member
use Rattle.league_hints.specs.declared.wanted.Wanted.{Wanted}
use Rattle.league_hints.specs.declared.wanted.Wanted.TheVariants as wanted
use Rattle.league_hints.specs.declared.needs.Need.{Need}
use Rattle.league_hints.specs.declared.needs.Need.TheVariants as need
use Rattle.league_hints.specs.Lines.{rule_member_name}
use Rattle.league_hints.specs.Needs.{is_met, member_of, wanted_of}
use Rattle.league_hints.specs.Firsts.{or_else}
use Rattle.league_hints.specs.Rosters.{first_wrong_in_games, first_wrong_name, is_name}
use Rattle.league_hints.specs.Seen.{rule_seen, seen_of}
use Rattle.league_forms.specs.Forms.{quote_of}

-- the first of the needs that a rule of these teams doesn't meet
abbrev pub first_unmet : RosterData → Data → List Need → Option Need
first_unmet roster d [] = None
first_unmet roster d (x ∷ xs) = if is_met roster d x then first_unmet roster d xs else Some x

-- what the classes ask of members by these names

abbrev pub teams : Need
teams = need.Teams member.Teams

abbrev pub teams1 : Need
teams1 = need.Teams member.Teams1

abbrev pub min : Need
min = need.Count member.Min

abbrev pub max : Need
max = need.Count member.Max

abbrev pub intp : Need
intp = need.Count member.Intp

-- what the class of this name asks for, besides kind and weight
abbrev pub needs_of : List ℕ → Option (List Need)
needs_of name =
    if bytes_eq name (codes "CA1") then Some (teams ∷ need.HomeOrAway ∷ need.Slots ∷ max ∷ []) else
    (if bytes_eq name (codes "CA2") then Some (teams1 ∷ need.Side ∷ need.Opponents ∷ need.Slots ∷ max ∷ []) else
    (if bytes_eq name (codes "CA3") then Some (teams1 ∷ need.Side ∷ need.Opponents ∷ need.Window ∷ max ∷ []) else
    (if bytes_eq name (codes "CA4") then Some (teams1 ∷ need.Side ∷ need.Opponents ∷ need.Slots ∷ need.SlotChoice ∷ max ∷ []) else
    (if bytes_eq name (codes "GA1") then Some (need.Games ∷ need.Slots ∷ min ∷ max ∷ need.MaxFromMin ∷ []) else
    (if bytes_eq name (codes "BR1") then Some (teams ∷ need.Side ∷ need.Slots ∷ intp ∷ []) else
    (if bytes_eq name (codes "BR2") then Some (teams ∷ need.Slots ∷ intp ∷ []) else
    (if bytes_eq name (codes "SE1") then Some (teams ∷ min ∷ []) else
    (if bytes_eq name (codes "FA2") then Some (teams ∷ need.Slots ∷ intp ∷ []) else None))))))))

-- the first need that isn't met: of kind and weight, and then of what the class asks for
abbrev pub unmet_of : RosterData → Data → List Need → Option Need
unmet_of roster d needs = or_else (first_unmet roster d (need.Kind ∷ need.Weight ∷ [])) (first_unmet roster d needs)

-- of a rule whose class some format knows
abbrev pub unmet : RosterData → Data → Option Need
unmet roster d = option_and_then (unmet_of roster d) (option_and_then needs_of (text_member (codes "class") d))

abbrev pub member_hint : ℕ → Data → RuleMember → Wanted → Hint
member_hint i d member wanted = hint.Value (Member (i + 1) member) (seen_of (rule_member_name member) wanted d) wanted

-- the class that only the second format knows
abbrev pub is_fa2 : Option (List ℕ) → Bool
is_fa2 None = false
is_fa2 (Some name) = bytes_eq name (codes "FA2")

-- the rule at an index has no class that its format knows
abbrev pub class_hint : ℕ → Data → Hint
class_hint i d =
    if is_fa2 (text_member (codes "class") d) then hint.SecondFormat (i + 1) else member_hint i d member.Class wanted.Class

-- the first text in a list of teams or of games that isn't the name of one team
abbrev pub wrong_name_in : RosterData → Wanted → Option Data → Option (List ℕ)
wrong_name_in roster (wanted.Listed n) found = option_and_then (first_wrong_name roster) (option_and_then as_array found)
wrong_name_in roster (wanted.ListedGames n) found = option_and_then (first_wrong_in_games roster) (option_and_then as_array found)
wrong_name_in roster wanted found = None

-- a list of teams has such a text
abbrev pub name_hint : ℕ → RosterData → Data → RuleMember → Wanted → Option Hint
name_hint i roster d member wanted =
    option_map (λ name. hint.Name (i + 1) member (quote_of name) (is_name roster.names name))
    (wrong_name_in roster wanted (get (rule_member_name member) d))

-- a member isn't as wanted
abbrev pub value_hint : ℕ → RosterData → Data → RuleMember → Wanted → Hint
value_hint i roster d member wanted =
    unwrap_or (name_hint i roster d member wanted)
    (hint.Value (Member (i + 1) member) (rule_seen roster (rule_member_name member) wanted d) wanted)

-- a need isn't met
abbrev pub need_hint : ℕ → RosterData → Data → Need → Hint
need_hint i roster d x = value_hint i roster d (member_of x) (wanted_of roster x)

-- the rule at an index has a wrong value
abbrev pub rule_hint : ℕ → RosterData → Data → Option Hint
rule_hint i roster d = option_map (need_hint i roster d) (unmet roster d)
