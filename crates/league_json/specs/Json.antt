-- The value that `serde_json` reads from bytes, and the forms of values that a league is made of.
use Rattle.std.specs.Prelude.{ℕ, ◌&&◌, List, [], ◌∷◌, Bool, true, nat_le, Option, Some, None, is_some, option_map}
use Rattle.std.specs.Prelude.{option_and_then, if◌then◌else◌}
use Rattle.std.specs.Str.{is_utf8}
use Rattle.serde_json.specs.Data.{Data, Items, no_items, item}
use Rattle.serde_json.specs.Read.{read}
use Rattle.serde_json.specs.Find.{as_number, as_u64, as_array, as_object}

-- the value that the bytes stand for, if they are UTF-8 and JSON
abbrev pub json_of : List ℕ → Option Data
json_of bytes = if is_utf8 bytes then read bytes else None

-- x, if a test passes
abbrev pub only_if : {A : Type 0} → Bool → A → Option A
only_if b x = if b then Some x else None

-- a whole number that fits 64 bits: `3.0` is none
abbrev pub whole_number : Data → Option ℕ
whole_number d = option_and_then as_u64 (as_number d)

-- a whole number from low to high
abbrev pub number_within : ℕ → ℕ → Data → Option ℕ
number_within low high d = option_and_then (λ n. only_if (nat_le low n && nat_le n high) n) (whole_number d)

-- the items, if each has the form
abbrev pub all_items : {A : Type 0} → (Data → Option A) → Items → Option (List A)
all_items form no_items = Some []
all_items form (item d ds) = option_and_then (λ x. option_map (λ xs. x ∷ xs) (all_items form ds)) (form d)

-- an array, each of whose items has the form
abbrev pub array_of : {A : Type 0} → (Data → Option A) → Data → Option (List A)
array_of form d = option_and_then (all_items form) (as_array d)

abbrev pub is_object : Data → Bool
is_object d = is_some (as_object d)

abbrev pub all_objects : Items → Bool
all_objects no_items = true
all_objects (item d ds) = is_object d && all_objects ds

-- an array of objects
abbrev pub objects : Data → Option Items
objects d = option_and_then (λ items. only_if (all_objects items) items) (as_array d)
