-- The teams that rules can list, by number or by name.
use Rattle.std.specs.Prelude.{ℕ, ◌+◌, List, [], ◌∷◌, length, not, nat_le, Option, Some, None, if◌then◌else◌}
use Rattle.std.specs.List.{list_any}
use Rattle.std.specs.Str.{bytes_eq}
use Rattle.serde_json.specs.Data.{Data}
use Rattle.serde_json.specs.Find.{as_str}
use Rattle.league_json.specs.Json.{only_if, number_within}

pub record RosterData : Type 0 where
  pub teams : ℕ
  -- those by which rules can list the teams
  pub names : List (List ℕ)

abbrev pub roster_data : ℕ → List (List ℕ) → RosterData
roster_data teams names = record { teams = teams; names = names }

-- the teams with these names, which rules can list by name from the third format on
abbrev pub roster_of : ℕ → List (List ℕ) → RosterData
roster_of format names = roster_data (length names) (if nat_le 3 format then names else [])

-- the number of the one team with this name, if these names are numbered from a number on
abbrev pub number_named : List ℕ → ℕ → List (List ℕ) → Option ℕ
number_named name number [] = None
number_named name number (first ∷ names) =
    if bytes_eq first name
    then only_if (not (list_any (λ other. bytes_eq other name) names)) number
    else number_named name (number + 1) names

abbrev pub listed_as : RosterData → Data → Option (List ℕ) → Option ℕ
listed_as roster d (Some name) = number_named name 1 roster.names
listed_as roster d None = number_within 1 roster.teams d

-- the number of the team that a text lists
abbrev pub listed_team : RosterData → Data → Option ℕ
listed_team roster d = listed_as roster d (as_str d)
