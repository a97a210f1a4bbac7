-- The teams that a league's text lets rules list.
use Rattle.std.specs.Prelude.{ℕ, List, [], ◌∷◌, not, Bool, Option, Some, None, codes, is_some, option_map, option_and_then}
use Rattle.std.specs.Prelude.{if◌then◌else◌}
use Rattle.std.specs.List.{list_any}
use Rattle.std.specs.Option.{unwrap_or}
use Rattle.std.specs.Str.{bytes_eq}
use Rattle.serde_json.specs.Data.{Data, Items, no_items, item}
use Rattle.serde_json.specs.Find.{as_array, as_str, get}
use Rattle.league_json.specs.Json.{number_within, only_if}
use Rattle.league_json.specs.Formats.{max_format}
use Rattle.league_json.specs.RuleMembers.{pairing_from}
use Rattle.league_json.specs.Rosters.{RosterData, listed_team, number_named}
use Rattle.league_hints.specs.Firsts.{or_else}

-- the names of teams
abbrev pub names_of : Items → List (List ℕ)
names_of no_items = []
names_of (item d ds) = unwrap_or (as_str d) [] ∷ names_of ds

-- a text in the third format
abbrev pub is_third : Data → Bool
is_third d = is_some (option_and_then (number_within 3 max_format) (get (codes "format") d))

abbrev pub team_names : Data → List (List ℕ)
team_names d = unwrap_or (option_map names_of (option_and_then as_array (get (codes "teams") d))) []

-- the names by which the rules of a text can list teams, which the third format has
abbrev pub names_in : Data → List (List ℕ)
names_in d = if is_third d then team_names d else []

-- the first item that lists no team
abbrev pub first_unlisted : RosterData → Items → Option Data
first_unlisted roster no_items = None
first_unlisted roster (item d ds) = if is_some (listed_team roster d) then first_unlisted roster ds else Some d

-- the first item that is no game
abbrev pub first_no_game : RosterData → Items → Option Data
first_no_game roster no_items = None
first_no_game roster (item d ds) = if is_some (pairing_from roster d) then first_no_game roster ds else Some d

-- a text that isn't the name of one team
abbrev pub wrong_name : RosterData → Data → Option (List ℕ)
wrong_name roster d = option_and_then (λ name. only_if (not (is_some (number_named name 1 roster.names))) name) (as_str d)

-- the first among items
abbrev pub first_wrong_name : RosterData → Items → Option (List ℕ)
first_wrong_name roster no_items = None
first_wrong_name roster (item d ds) = or_else (wrong_name roster d) (first_wrong_name roster ds)

-- the first among games
abbrev pub first_wrong_in_games : RosterData → Items → Option (List ℕ)
first_wrong_in_games roster no_items = None
first_wrong_in_games roster (item d ds) =
    or_else (option_and_then (first_wrong_name roster) (as_array d)) (first_wrong_in_games roster ds)

-- whether a team has this name
abbrev pub is_name : List (List ℕ) → List ℕ → Bool
is_name names name = list_any (λ other. bytes_eq other name) names
