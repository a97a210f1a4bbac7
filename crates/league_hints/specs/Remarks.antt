-- Remarks on the members of a league's text that no format knows.
use Rattle.std.specs.Prelude.{ℕ, ◌+◌, ◌&&◌, ◌||◌, List, [], ◌∷◌, ◌++◌, map, codes, decimal, Bool, Option, Some, None}
use Rattle.std.specs.Prelude.{option_and_then, if◌then◌else◌}
use Rattle.std.specs.List.{concat, list_any}
use Rattle.std.specs.Str.{bytes_eq}
use Rattle.serde_json.specs.Data.{Data, Items, no_items, item, Members, no_members, member}
use Rattle.serde_json.specs.Find.{get, as_array, as_object}
use Rattle.league_json.specs.Json.{json_of}
use Rattle.league_forms.specs.Shown.{shown_byte}
use Rattle.league_hints.specs.Rosters.{is_third}
use Rattle.league_hints.specs.declared.remarks.Owner.{Owner}
use Rattle.league_hints.specs.declared.remarks.Owner.TheVariants.{League, Rule}

abbrev pub is_one_of : List (List ℕ) → List ℕ → Bool
is_one_of names name = list_any (bytes_eq name) names

abbrev pub is_league_member : List ℕ → Bool
is_league_member = is_one_of (codes "format" ∷ codes "teams" ∷ codes "distances" ∷ codes "at_most" ∷ codes "hard_weight" ∷ codes "rules"
    ∷ codes "start" ∷ codes "phased" ∷ [])

-- of the third format alone
abbrev pub is_later_member : List ℕ → Bool
is_later_member = is_one_of (codes "name" ∷ codes "short" ∷ codes "rounds" ∷ codes "repeats" ∷ [])

abbrev pub is_rule_member : List ℕ → Bool
is_rule_member = is_one_of (codes "class" ∷ codes "kind" ∷ codes "weight" ∷ codes "teams" ∷ codes "teams1" ∷ codes "teams2" ∷ codes
    "slots" ∷ codes "mode" ∷ codes "mode2" ∷ codes "max" ∷ codes "min" ∷ codes "intp" ∷ codes "games" ∷ [])

-- some format knows the member, or the league is in the third and that does
abbrev pub knows : Owner → List ℕ → Bool
knows (League third) name = is_league_member name || (third && is_later_member name)
knows (Rule number) name = is_rule_member name

abbrev pub owner_words : Owner → List ℕ
owner_words (League third) = codes "the league"
owner_words (Rule number) = codes "rule " ++ decimal number

abbrev pub remark_line : Owner → List ℕ → List ℕ
remark_line owner name =
    concat (codes "remark: " ∷ owner_words owner ∷ codes " has a member " ∷ map shown_byte name ∷ codes ", which is not read\n" ∷ [])

abbrev pub remark : Owner → List ℕ → List ℕ
remark owner name = if knows owner name then [] else remark_line owner name

-- a remark for each of the members that is not known
abbrev pub member_remarks : Owner → Members → List ℕ
member_remarks owner no_members = []
member_remarks owner (member name d ms) = remark owner name ++ member_remarks owner ms

abbrev pub remarks_in : Owner → Option Members → List ℕ
remarks_in owner None = []
remarks_in owner (Some ms) = member_remarks owner ms

-- on the rules, the first of which has this number
abbrev pub rule_remarks : ℕ → Items → List ℕ
rule_remarks number no_items = []
rule_remarks number (item d ds) = remarks_in (Rule number) (as_object d) ++ rule_remarks (number + 1) ds

abbrev pub remarks_of_rules : Option Items → List ℕ
remarks_of_rules None = []
remarks_of_rules (Some rules) = rule_remarks 1 rules

-- on the league, and then on each rule
abbrev pub remarks_of : Data → List ℕ
remarks_of d = remarks_in (League (is_third d)) (as_object d) ++ remarks_of_rules (option_and_then as_array (get (codes "rules") d))

-- on the value of a text; bytes that are no JSON have none
abbrev pub remarks_of_value : Option Data → List ℕ
remarks_of_value None = []
remarks_of_value (Some d) = remarks_of d

unfoldable pub remarks_on : List ℕ → List ℕ
remarks_on bytes = remarks_of_value (json_of bytes)
