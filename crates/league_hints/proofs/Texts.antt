-- What the reader of JSON says of bytes, as the definition of a league's text has it.
use Rattle.std.proofs.Common.{◌≡◌, ℕ, ◌+◌, ◌==◌, List, Bool, true, false, not, Some, None, cond, count_by, take, refl}
use Rattle.std.proofs.lemmas.Str.{is_utf8-from_IsUtf8, IsUtf8-from_is_utf8}
use Rattle.std.specs.Str.{IsUtf8, is_utf8}
use Rattle.std.specs.Str.Lossy.{utf8_valid_len}
use Rattle.serde_json.specs.Data.{Data}
use Rattle.serde_json.specs.Read.{read}
use Rattle.league_json.specs.Json.{json_of, only_if}
use Rattle.league_hints.specs.Hints.{line_past_utf8}

pub json_of-valid : (bytes : List ℕ) (d : Data) → IsUtf8 bytes → read bytes ≡ Some d → json_of bytes ≡ Some d
json_of-valid bytes d utf8 is = rw (is_utf8-from_IsUtf8 bytes utf8, is)

refused_at : (bytes : List ℕ) (b : Bool) → is_utf8 bytes ≡ b → (IsUtf8 bytes → read bytes ≡ None) → cond b (read bytes) None ≡ None
refused_at bytes true is none = none (IsUtf8-from_is_utf8 bytes is)
refused_at bytes false is none = refl

pub json_of-refused : (bytes : List ℕ) → (IsUtf8 bytes → read bytes ≡ None) → json_of bytes ≡ None
json_of-refused bytes none = refused_at bytes (is_utf8 bytes) refl none

past_utf8 : (bytes : List ℕ) (b : Bool) → is_utf8 bytes ≡ b → (IsUtf8 bytes → ⊥) → b ≡ false
past_utf8 bytes true is never = absurd (never (IsUtf8-from_is_utf8 bytes is))
past_utf8 bytes false is never = refl

pub no_line_past : (bytes : List ℕ) → IsUtf8 bytes → None ≡ only_if (not (is_utf8 bytes)) (line_past_utf8 bytes)
no_line_past bytes utf8 = rw (is_utf8-from_IsUtf8 bytes utf8) refl

pub line_past : (bytes : List ℕ) (n k : ℕ) → (IsUtf8 bytes → ⊥) → n ≡ utf8_valid_len bytes → k ≡ count_by (λ b. b == 10) (take n bytes)
    → Some (1 + k) ≡ only_if (not (is_utf8 bytes)) (line_past_utf8 bytes)
line_past bytes n k never n_is k_is = rw (past_utf8 bytes (is_utf8 bytes) refl never, k_is, n_is) refl
