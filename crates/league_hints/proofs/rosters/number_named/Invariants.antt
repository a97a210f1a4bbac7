-- What was found so far, with the names that are left, is the number of the one team.
use Rattle.std.proofs.Common.{◌≡◌, ◌+◌, ℕ, not, drop, List, Option, Some, None}
use Rattle.std.specs.List.{list_any}
use Rattle.std.specs.Str.{bytes_eq}
use Rattle.serde_json.specs.View.{items_view}
use Rattle.league_json.specs.Json.{only_if}
use Rattle.league_json.specs.Rosters.{number_named}
use Rattle.league_hints.specs.Rosters.{names_of}
use Rattle.league_hints.proofs.rosters.number_named.Given as goal

-- the number of the one team, among those before a number and these names from it on
abbrev pub found_with : List ℕ → ℕ → List (List ℕ) → Option ℕ → Option ℕ
found_with name number names None = number_named name number names
found_with name number names (Some found) = only_if (not (list_any (λ other. bytes_eq other name) names)) found

abbrev pub invariant-loop-index : goal.invariant-loop-index
invariant-loop-index l =
    found_with l.name (l.index + 1) (names_of (items_view (drop l.index l.names))) l.found ≡ number_named l.name 1 (names_of (items_view l.names))
