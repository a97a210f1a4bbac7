-- Numbers that are read digit by digit.
use Rattle.std.proofs.Common.{◌≡◌, zero, suc, None, ℕ, ◌+◌, ◌-◌, ◌*◌, ◌<◌, ◌≤◌, ◌^◌, Bool, true, false, ◌&&◌, List, []}
use Rattle.std.proofs.Common.{◌∷◌, length, take, get_or, refl, ap, arith}
use Rattle.std.specs.Prelude.{◌==◌, nat_lt}
use Rattle.std.specs.List.{list_all}
use Rattle.std.specs.Char.{is_ascii_digit, digit_value}
use Rattle.std.specs.Str.{all_ascii_digits}
use Rattle.std.specs.Str.Parse.{digits_value}
use Rattle.text_lines.specs.Number.{number_of, fitting}
use Rattle.std.proofs.lemmas.Bool.Decides.{nat_tests}
use Rattle.std.proofs.lemmas.Int.Digits.{digits_value_more}
use Rattle.std.proofs.lemmas.Str.Parse.{digits_value-take-le, digits_value_short, numerals_by_value, tells_all_ascii_digits}

pub same_all : (bs : List ℕ) → list_all is_ascii_digit bs ≡ all_ascii_digits bs
same_all [] = refl
same_all (b ∷ bs) = ap (λ t. is_ascii_digit b && t) (same_all bs)

-- a text of at most 20 digits is below this, and so is each front of it
pub few_digits : (bs : List ℕ) (i : ℕ) → all_ascii_digits bs ≡ true → length bs ≤ 20 → digits_value 10 (take i bs) < 10 ^ 20
few_digits bs i digits few =
    omega (
      arith,
      digits_value-take-le 10 bs i (omega arith),
      digits_value_short (numerals_by_value _ tells_all_ascii_digits) bs 20 digits few,
    )

both_true : (a b : Bool) → (a && b) ≡ true → (a ≡ true) × (b ≡ true)
both_true true b e = (refl, e)
both_true false b e = cc

pub digit_at : (bs : List ℕ) (i : ℕ) → all_ascii_digits bs ≡ true → i < length bs → is_ascii_digit (get_or bs i 0) ≡ true
digit_at [] i digits within = absurd (omega arith)
digit_at (b ∷ bs) zero digits within = (both_true _ _ digits).0
digit_at (b ∷ bs) (suc i) digits within = digit_at bs i (both_true _ _ digits).1 (omega arith)

pub from_zero : (c : ℕ) → is_ascii_digit c ≡ true → 48 ≤ c
from_zero c digit = grind (arith, nat_tests)

value_of_digit : (c : ℕ) → is_ascii_digit c ≡ true → digit_value c ≡ c - 48
value_of_digit c digit =
    let low : nat_lt c 48 ≡ false = grind (arith, nat_tests) in
    let high : nat_lt c 58 ≡ true = grind (arith, nat_tests) in
    rw (low, high) refl

-- the value of one more digit
pub one_digit_more : (bs : List ℕ) (i : ℕ) → all_ascii_digits bs ≡ true → i < length bs
    → digits_value 10 (take i bs) * 10 + (get_or bs i 0 - 48) ≡ digits_value 10 (take (i + 1) bs)
one_digit_more bs i digits within =
    let digit : digit_value (get_or bs i 0) ≡ get_or bs i 0 - 48 = value_of_digit (get_or bs i 0) (digit_at bs i digits within) in
    rw (digits_value_more 10 bs i within, digit) refl

pub none_long : (word : List ℕ) → 20 < length word → number_of word ≡ None
none_long word long =
    let empty : (length word == 0) ≡ false = grind (arith, nat_tests) in
    let over : nat_lt 20 (length word) ≡ true = grind (arith, nat_tests) in
    rw (empty, over) refl

pub none_other : (word : List ℕ) → (length word == 0) ≡ false → length word ≤ 20 → all_ascii_digits word ≡ false → number_of word ≡ None
none_other word empty short other =
    let over : nat_lt 20 (length word) ≡ false = grind (arith, nat_tests) in
    rw (empty, over, other) refl

pub some_number : (word : List ℕ) (value : ℕ) → (length word == 0) ≡ false → length word ≤ 20 → all_ascii_digits word ≡ true →
    value ≡ digits_value 10 word
    → fitting value ≡ number_of word
some_number word value empty short digits is =
    let over : nat_lt 20 (length word) ≡ false = grind (arith, nat_tests) in
    rw (empty, over, digits, is) refl
