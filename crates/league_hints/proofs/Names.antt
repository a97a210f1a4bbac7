-- The names of a text's teams.
use Rattle.std.proofs.Common.{◌≡◌, List, [], ◌∷◌, length, refl, arith}
use Rattle.serde_json.specs.declared.value.Value.{Value}
use Rattle.serde_json.specs.View.{items_view}
use Rattle.league_hints.specs.Rosters.{names_of}

pub length_names : (items : List Value) → length (names_of (items_view items)) ≡ length items
length_names [] = refl
length_names (item ∷ items) = omega (arith, length_names items)
