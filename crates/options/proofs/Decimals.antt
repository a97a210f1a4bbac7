-- The digits behind a point.
use Rattle.std.proofs.Common.{◌≡◌, ◌<◌, ◌≤◌, ◌||◌, ℕ, Bool, true, false, Some, None, length, not, refl, arith}
use Rattle.std.specs.Prelude.{◌==◌, ◌^◌, if◌then◌else◌, nat_lt}
use Rattle.std.specs.Str.{all_ascii_digits}
use Rattle.std.specs.Str.Parse.{digits_value}
use Rattle.std.proofs.lemmas.Str.Parse.{digits_value_short, numerals_by_value, tells_all_ascii_digits}
use Rattle.clap.specs.Words.{Text}
use Rattle.text_lines.specs.Number.{number_of}

-- at most three digits are below a thousand
pub few_digits : (digits : Text) (n : ℕ) → number_of digits ≡ Some n → length digits ≤ 3 → n < 1000
few_digits digits n is few =
    go (length digits == 0) (nat_lt 20 (length digits)) (all_ascii_digits digits) (nat_lt (digits_value 10 digits) (2 ^ 64)) refl is
  where
    go : (none many all fits : Bool) → all_ascii_digits digits ≡ all
        → (if none || many || not all then None else (if fits then Some (digits_value 10 digits) else None)) ≡ Some n → n < 1000
    go true many all fits digital is = cc
    go false true all fits digital is = cc
    go false false false fits digital is = cc
    go false false true false digital is = cc
    go false false true true digital is =
        let short : digits_value 10 digits < 10 ^ 3 = digits_value_short (numerals_by_value _ tells_all_ascii_digits) digits 3 digital few in
        let same : digits_value 10 digits ≡ n = cc in
        omega arith
