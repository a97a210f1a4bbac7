-- What the reader of JSON says of bytes, as the definition of a league's text has it.
use Rattle.std.proofs.Common.{◌≡◌, ℕ, List, [], Bool, true, false, Some, None, Ok, Err, cond, refl, ap}
use Rattle.std.proofs.lemmas.Str.{is_utf8-from_IsUtf8, IsUtf8-from_is_utf8}
use Rattle.std.specs.Str.{IsUtf8, is_utf8}
use Rattle.serde_json.specs.Data.{Data}
use Rattle.serde_json.specs.Read.{read}
use Rattle.serde_json.proofs.OnLiterals.{serde_json_on_literals}
use Rattle.league.specs.declared.fault.LeagueFault.TheVariants.{NotJson}
use Rattle.league_json.specs.Json.{json_of}
use Rattle.league.specs.Reading.{or_fault}

pub json_of-valid : (bytes : List ℕ) (d : Data) → IsUtf8 bytes → read bytes ≡ Some d
    → or_fault NotJson (json_of bytes) ≡ Ok d
json_of-valid bytes d utf8 is = rw (is_utf8-from_IsUtf8 bytes utf8, is)

refused_at : (bytes : List ℕ) (b : Bool) → is_utf8 bytes ≡ b → (IsUtf8 bytes → read bytes ≡ None)
    → or_fault NotJson (cond b (read bytes) None) ≡ Err NotJson
refused_at bytes true is none = rw (none (IsUtf8-from_is_utf8 bytes is))
refused_at bytes false is none = refl

pub json_of-refused : (bytes : List ℕ) → (IsUtf8 bytes → read bytes ≡ None)
    → or_fault NotJson (json_of bytes) ≡ Err NotJson
json_of-refused bytes none = refused_at bytes (is_utf8 bytes) refl none

-- no bytes are no value
pub read-empty : (bytes : List ℕ) (d : Data) → bytes ≡ [] → read bytes ≡ Some d → ⊥
unfolding serde_json_on_literals
read-empty bytes d empty is = let none : read [] ≡ None = refl in cc (ap read empty)
