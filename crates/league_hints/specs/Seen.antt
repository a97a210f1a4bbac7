-- What stands in a text for a member.
use Rattle.std.specs.Prelude.{ℕ, List, Option, Some, None, is_some, option_map, option_and_then, if◌then◌else◌}
use Rattle.std.specs.Option.{unwrap_or}
use Rattle.serde_json.specs.Data.{Data, Items, no_items, item}
use Rattle.serde_json.specs.Find.{as_array, get}
use Rattle.league_json.specs.Json.{number_within}
use Rattle.serde_json.specs.Events.{items_len}
use Rattle.league_json.specs.LeagueMembers.{text_within}
use Rattle.league.specs.Limits.{max_short_name, max_round_text}
use Rattle.league_json.specs.Rosters.{RosterData}
use Rattle.league_hints.specs.declared.hint.Seen.{Seen}
use Rattle.league_hints.specs.declared.hint.Seen.TheVariants.{Absent, Value, Item, Length}
use Rattle.league_hints.specs.declared.wanted.Wanted.{Wanted}
use Rattle.league_hints.specs.declared.wanted.Wanted.TheVariants.{Teams, Listed, Rounds, Games, ListedGames, ShortNames, RoundTexts}
use Rattle.league_hints.specs.Rosters.{first_unlisted, first_no_game}
use Rattle.league_forms.specs.Forms.{form_of}

-- the first item that is no number from 1 to most
abbrev pub first_outside : ℕ → Items → Option Data
first_outside most no_items = None
first_outside most (item d ds) = if is_some (number_within 1 most d) then first_outside most ds else Some d

-- the first item that is no text of one byte to so many
abbrev pub first_no_text : ℕ → Items → Option Data
first_no_text most no_items = None
first_no_text most (item d ds) = if is_some (text_within most d) then first_no_text most ds else Some d

-- the first item of an array that isn't wanted in it, if that needs no names of teams
abbrev pub wrong_item : Wanted → Data → Option Data
wrong_item (Rounds most) d = option_and_then (first_outside most) (as_array d)
wrong_item ShortNames d = option_and_then (first_no_text max_short_name) (as_array d)
wrong_item RoundTexts d = option_and_then (first_no_text max_round_text) (as_array d)
wrong_item wanted d = None

-- the first item of an array that lists no team, or is no game
abbrev pub wrong_listed : RosterData → Wanted → Data → Option Data
wrong_listed roster (Teams n) d = option_and_then (first_unlisted roster) (as_array d)
wrong_listed roster (Listed n) d = option_and_then (first_unlisted roster) (as_array d)
wrong_listed roster (Games n) d = option_and_then (first_no_game roster) (as_array d)
wrong_listed roster (ListedGames n) d = option_and_then (first_no_game roster) (as_array d)
wrong_listed roster wanted d = None

-- the length of an array, or else what the value is
abbrev pub length_of : Data → Seen
length_of d = unwrap_or (option_map (λ items. Length (items_len items)) (as_array d)) (Value (form_of d))

-- a value of which no item is wrong
abbrev pub whole : Wanted → Data → Seen
whole ShortNames d = length_of d
whole RoundTexts d = length_of d
whole wanted d = Value (form_of d)

-- a wrong item, or else the whole
abbrev pub seen : Wanted → Data → Seen
seen wanted d = unwrap_or (option_map (λ wrong. Item (form_of wrong)) (wrong_item wanted d)) (whole wanted d)

-- what there is, if there is something
abbrev pub seen_in : Wanted → Option Data → Seen
seen_in wanted found = unwrap_or (option_map (seen wanted) found) Absent

-- what an object has for a member of this name, where this is wanted
abbrev pub seen_of : List ℕ → Wanted → Data → Seen
seen_of name wanted d = seen_in wanted (get name d)

-- the same of a rule, whose lists of teams are looked at too
abbrev pub rule_seen : RosterData → List ℕ → Wanted → Data → Seen
rule_seen roster name wanted d =
    unwrap_or (option_map (λ wrong. Item (form_of wrong)) (option_and_then (wrong_listed roster wanted) (get name d)))
    (seen_of name wanted d)
