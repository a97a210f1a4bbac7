-- Which team's name is wrong. Teams are numbered from 0, and from 1 in hints.
use Rattle.std.specs.Prelude.{ℕ, ◌+◌, ◌&&◌, List, length, not, nat_le, Option, Some, None, option_and_then, option_map}
use Rattle.std.specs.Prelude.{if◌then◌else◌}
use Rattle.std.specs.List.{list_all}
use Rattle.serde_json.specs.Data.{Data}
use Rattle.serde_json.specs.Find.{as_str, at}
use Rattle.league_json.specs.Json.{only_if}
use Rattle.league.specs.Names.{is_name_byte}
use Rattle.league.specs.Limits.{max_name}
use Rattle.league_hints.specs.declared.hint.Hint.{Hint}
use Rattle.league_hints.specs.declared.hint.Hint.TheVariants.{Value}
use Rattle.league_hints.specs.declared.place.Place.TheVariants.{Team}
use Rattle.league_hints.specs.declared.hint.Seen.{Seen}
use Rattle.league_hints.specs.declared.hint.Seen.TheVariants.{Bytes, ControlByte}
use Rattle.league_hints.specs.declared.hint.Seen.TheVariants as seen
use Rattle.league_hints.specs.declared.wanted.Wanted.TheVariants.{Name}
use Rattle.league_hints.specs.Firsts.{item_count, first_below}
use Rattle.league_forms.specs.Forms.{form_of, quote_of}

-- a text that is no name: it is too short or too long, or has a control byte
abbrev pub wrong_text : List ℕ → Option Seen
wrong_text name =
    if nat_le 1 (length name) && nat_le (length name) max_name
    then only_if (not (list_all is_name_byte name)) (ControlByte (quote_of name))
    else Some (Bytes (quote_of name) (length name))

abbrev pub wrong_text_or_value : Data → Option (List ℕ) → Option Seen
wrong_text_or_value d None = Some (seen.Value (form_of d))
wrong_text_or_value d (Some name) = wrong_text name

-- what is seen in place of a name
abbrev pub wrong_name : Data → Option Seen
wrong_name d = wrong_text_or_value d (as_str d)

abbrev pub team_hint : Data → ℕ → Option Hint
team_hint teams team = option_map (λ wrong. Value (Team (team + 1)) wrong Name) (option_and_then wrong_name (at team teams))

-- the first of the teams that is wrong
abbrev pub teams_hint : Data → Option Hint
teams_hint teams = first_below (item_count teams) (team_hint teams)
