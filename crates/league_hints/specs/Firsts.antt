-- The first answer at a number below n, and how many items an array has.
use Rattle.std.specs.Prelude.{ℕ, zero, suc, Option, None, option_map}
use Rattle.std.specs.Option.{unwrap_or}
use Rattle.serde_json.specs.Data.{Data}
use Rattle.serde_json.specs.Events.{items_len}
use Rattle.serde_json.specs.Find.{as_array}
pub use Rattle.league_forms.specs.Forms.{or_else}

-- how many items an array has, or 0
abbrev pub item_count : Data → ℕ
item_count d = unwrap_or (option_map items_len (as_array d)) 0

-- the first answer at a number below n
unfoldable pub first_below : {A : Type 0} → ℕ → (ℕ → Option A) → Option A
first_below zero f = None
first_below (suc n) f = or_else (first_below n f) (f n)
