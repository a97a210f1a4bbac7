-- What private functions alone need beside specs/Needs.antt.
use Rattle.std.specs.Prelude.{ℕ, List, Option, option_and_then}
use Rattle.serde_json.specs.Data.{Data}
use Rattle.serde_json.specs.Find.{get}
use Rattle.league_json.specs.Json.{number_within}

abbrev pub number_member : List ℕ → ℕ → ℕ → Data → Option ℕ
number_member name low high d = option_and_then (number_within low high) (get name d)
