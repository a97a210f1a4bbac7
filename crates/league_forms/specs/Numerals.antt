-- What is written of a number that is no whole number. Its digits are those of the kit's `ryu`, of which no clause says which they are.
use Rattle.std.specs.Prelude.{◌≡◌, ℕ, List, Float, IsTrue, Option, Some, None, Result, IfSome, IsOk}
use Rattle.std.specs.Float.{binary64, float_is_finite}
use Rattle.std.specs.Fmt.{HasWritten, IsPlainFormatter}
use Rattle.std.specs.declared.fmt.Error.{Error}
use Rattle.std.specs.declared.fmt.Formatter.{Formatter}
use Rattle.ryu.specs.Parse.{parse_float}
use Rattle.ryu.specs.Plain.{IsPlainNumber}

-- the text reads as the number, and is written as JSON has it
abbrev pub IsNumeral : Float → List ℕ → Type 0
IsNumeral number text = (parse_float binary64 text ≡ Some number) × (IsTrue (float_is_finite number) → IsPlainNumber text)

-- the words, unless they show such a number
abbrev pub stated : Option Float → List ℕ → Option (List ℕ)
stated None words = Some words
stated (Some number) words = None

-- if f is plain and r is `Ok`, then g is f after writing the words with some numeral of the number, if there is one
abbrev pub WritesWithNumeral : {W : Type 0} → (W → List ℕ → W → Type 0) → Formatter W → Result (Unit {0}) Error → Option Float
    → (List ℕ → List ℕ) → Formatter W → Type 0
WritesWithNumeral took f r number words g =
    IsPlainFormatter f → IsOk r → (numeral : List ℕ) × IfSome number (λ x. IsNumeral x numeral) × HasWritten took f (words numeral) g
