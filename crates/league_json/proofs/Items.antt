-- Reading the items of an array one after another.
use Rattle.std.proofs.Common.{◌≢◌, ◌≡◌, List, [], ◌∷◌, ◌++◌, length, Option, None, Result, Ok, Err, option_map, refl}
use Rattle.serde_json.specs.declared.value.Value.{Value}
use Rattle.serde_json.specs.View.{items_view}
use Rattle.serde_json.specs.Events.{items_len}
use Rattle.serde_json.proofs.Views.{items_len-items_view}
use Rattle.league.specs.declared.fault.LeagueFault.{LeagueFault}
use Rattle.league_json.specs.RuleMembers.{pairing_from_items}
use Rattle.league_json.specs.Rosters.{RosterData}

-- what was read, before what is left
abbrev pub with_front : {A : Type 0} → List A → Option (List A) → Option (List A)
with_front done rest = option_map (λ xs. done ++ xs) rest

-- the same where the reading of the rest may answer a fault
abbrev pub with_front_or_fault : {A : Type 0} → List A → Result (List A) LeagueFault → Result (List A) LeagueFault
with_front_or_fault done (Ok rest) = Ok (done ++ rest)
with_front_or_fault done (Err fault) = Err fault

-- as many items as the code sees
pub items_len_same : (items : List Value) → items_len (items_view items) ≡ length items
items_len_same items = items_len-items_view items

-- a game is an array of two
pub game_of_items_none : (roster : RosterData) (items : List Value) → length items ≢ 2 → pairing_from_items roster (items_view items) ≡ None
game_of_items_none roster [] h = refl
game_of_items_none roster (a ∷ []) h = refl
game_of_items_none roster (a ∷ b ∷ []) h = absurd (h refl)
game_of_items_none roster (a ∷ b ∷ c ∷ items) h = refl
