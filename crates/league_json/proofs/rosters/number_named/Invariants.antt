-- What was found so far, with the names that are left, is the number of the one team.
use Rattle.std.proofs.Common.{◌≡◌, ◌≤◌, ◌+◌, ℕ, not, drop, List, Option, Some, None, IfSome}
use Rattle.std.specs.List.{list_any}
use Rattle.std.specs.Str.{bytes_eq}
use Rattle.league_json.specs.Json.{only_if}
use Rattle.league_json.specs.Rosters.{number_named}
use Rattle.league.specs.Views.{texts}
use Rattle.league_json.proofs.rosters.number_named.Given as goal

-- the number of the one team, among those before a number and these names from it on
abbrev pub found_with : List ℕ → ℕ → List (List ℕ) → Option ℕ → Option ℕ
found_with name number names None = number_named name number names
found_with name number names (Some found) = only_if (not (list_any (λ other. bytes_eq other name) names)) found

abbrev pub invariant-loop-index : goal.invariant-loop-index
invariant-loop-index l = record {
  read : found_with l.name (l.index + 1) (texts (drop l.index l.names)) l.found ≡ number_named l.name 1 (texts l.names);
  least : IfSome l.found (λ number. 1 ≤ number);
  most : IfSome l.found (λ number. number ≤ l.index);
}
