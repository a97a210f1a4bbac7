-- Numbers and words that are written in a line, and read again.
use Rattle.std.proofs.Common.{◌≡◌, ℕ, ◌+◌, ◌-◌, ◌^◌, ◌<◌, ◌≤◌, nat_le, true, false, List, [], ◌∷◌, ◌++◌, length, Some}
use Rattle.std.proofs.Common.{decimal, refl, sym, ap, ◌∙◌, arith, filter}
use Rattle.std.specs.Prelude.{◌==◌, nat_lt}
use Rattle.std.specs.List.{All, list_all, slice_split, AllByRecursion as ByRecursion}
use Rattle.std.specs.Str.{all_ascii_digits}
use Rattle.std.specs.Str.Parse.{digits_value}
use Rattle.std.proofs.lemmas.Bool.{and_parts, le-ltb, ne_eqb}
use Rattle.std.proofs.lemmas.Bool.Decides.{nat_tests}
use Rattle.std.proofs.lemmas.Fmt.{decimal_nonempty, digits_decimal, digits_value-decimal, length-decimal-le}
use Rattle.std.proofs.lemmas.List.Elements.{All-append, All-cons, All-from_recursion, All-weaker}
use Rattle.std.proofs.lemmas.List.Splits.{slice_split_at, slice_split_none}
use Rattle.std.proofs.lemmas.Str.Parse.{IsNumeralModel, numerals_by_value, tells_all_ascii_digits}
use Rattle.text_lines.specs.Number.{number_of, fitting, index_of}
use Rattle.text_lines.specs.Words.{is_blank, is_word, words_of}
use Rattle.text_lines.proofs.Digits.{some_number}
use Rattle.text_lines.proofs.Splitting.{word_kept}

-- ---- numbers

all_digits : IsNumeralModel (λ ds. all_ascii_digits ds ≡ true) (digits_value 10)
all_digits = numerals_by_value _ tells_all_ascii_digits

fitting_small : (n : ℕ) → n ≤ 255 → fitting n ≡ Some n
fitting_small n small =
    let fits : nat_lt n (2 ^ 64) ≡ true = grind (arith, nat_tests) in
    rw fits refl

pub number_of-decimal : (n : ℕ) → n ≤ 255 → number_of (decimal n) ≡ Some n
number_of-decimal n small =
    let fits : n < 2 ^ 64 = omega arith in
    let some : 0 < length (decimal n) = decimal_nonempty n fits in
    let short : length (decimal n) ≤ 3 = length-decimal-le 3 n (omega arith) (omega arith) fits in
    let value : n ≡ digits_value 10 (decimal n) = sym (digits_value-decimal all_digits n fits) in
    sym (some_number (decimal n) n (ne_eqb (length (decimal n)) 0 (λ none. omega arith)) (omega arith)
    (digits_decimal all_digits n fits) value) ∙
    fitting_small n small

-- an index is written one higher
pub index_of-more : (n : ℕ) → n < 255 → index_of (n + 1) ≡ n
index_of-more n small =
    let some : (n + 1 == 0) ≡ false = ne_eqb (n + 1) 0 (λ none. omega arith) in
    let within : nat_lt 255 (n + 1) ≡ false = le-ltb 255 (n + 1) (omega arith) in
    let same : (n + 1) - 1 ≡ n = omega arith in
    rw (some, within) same

-- ---- words

-- each byte is this or higher
abbrev pub AllFrom : ℕ → List ℕ → Type 0
AllFrom least bs = All (λ b. least ≤ b) bs

-- of a text that is known, the test computes
tested : (least : ℕ) (bs : List ℕ) → list_all (λ b. nat_le least b) bs ≡ true → ByRecursion (λ b. least ≤ b) bs
tested least [] e = tt
tested least (b ∷ bs) e =
    let parts = and_parts (nat_le least b) (list_all (λ b. nat_le least b) bs) e in
    let here : nat_le least b ≡ true = parts.0 in
    (grind (arith, nat_tests), tested least bs parts.1)

-- one byte or more, each above the space, and so no blank and no line end
pub record IsPlain (word : List ℕ) : Type 0 where
  pub some : 0 < length word
  pub all : AllFrom 33 word

pub IsPlain-tested : (word : List ℕ) → nat_lt 0 (length word) ≡ true → list_all (λ b. nat_le 33 b) word ≡ true → IsPlain word
IsPlain-tested word some all = record {
  some = grind (arith, nat_tests);
  all = All-from_recursion (λ b. 33 ≤ b) word (tested 33 word all);
}

from_digits : (bs : List ℕ) → all_ascii_digits bs ≡ true → ByRecursion (λ b. 33 ≤ b) bs
from_digits [] digits = tt
from_digits (b ∷ bs) digits =
    let parts = (tells_all_ascii_digits).parts b bs digits in
    let low : 48 ≤ b = parts.0.0 in
    (omega arith, from_digits bs parts.1)

pub IsPlain-decimal : (n : ℕ) → n ≤ 255 → IsPlain (decimal n)
IsPlain-decimal n small =
    let fits : n < 2 ^ 64 = omega arith in
    record {
      some = decimal_nonempty n fits;
      all = All-from_recursion (λ b. 33 ≤ b) (decimal n) (from_digits (decimal n) (digits_decimal all_digits n fits));
    }

no_blank : (b : ℕ) → 33 ≤ b → is_blank b ≡ false
no_blank b high = grind (arith, nat_tests)

without_blanks : (word : List ℕ) → IsPlain word → All (λ b. is_blank b ≡ false) word
without_blanks word plain = All-weaker (λ b. 33 ≤ b) (λ b. is_blank b ≡ false) no_blank word plain.all

word_then : (word rest : List ℕ) → IsPlain word → words_of (word ++ 32 ∷ rest) ≡ word ∷ words_of rest
word_then word rest plain =
    ap (filter is_word) (slice_split_at is_blank word 32 rest (without_blanks word plain) refl) ∙
    word_kept word (slice_split is_blank rest) plain.some

last_word : (word : List ℕ) → IsPlain word → words_of word ≡ word ∷ []
last_word word plain = ap (filter is_word) (slice_split_none is_blank word (without_blanks word plain)) ∙ word_kept word [] plain.some

-- a word with two or three more after it
abbrev pub with_two : List ℕ → List ℕ → List ℕ → List ℕ
with_two word a b = word ++ 32 ∷ (a ++ 32 ∷ b)

abbrev pub with_three : List ℕ → List ℕ → List ℕ → List ℕ → List ℕ
with_three word a b c = word ++ 32 ∷ (with_two a b c)

pub words_with_two : (word a b : List ℕ) → IsPlain word → IsPlain a → IsPlain b → words_of (with_two word a b) ≡ word ∷ a ∷ b ∷ []
words_with_two word a b plain plain_a plain_b =
    word_then word (a ++ 32 ∷ b) plain ∙ ap (λ ws. word ∷ ws) (word_then a b plain_a ∙ ap (λ ws. a ∷ ws) (last_word b plain_b))

pub words_with_three : (word a b c : List ℕ) → IsPlain word → IsPlain a → IsPlain b → IsPlain c →
    words_of (with_three word a b c) ≡ word ∷ a ∷ b ∷ c ∷ []
words_with_three word a b c plain plain_a plain_b plain_c =
    word_then word (with_two a b c) plain ∙ ap (λ ws. word ∷ ws) (words_with_two a b c plain_a plain_b plain_c)

-- each byte is a space or higher

pub AllFrom-plain : (word : List ℕ) → IsPlain word → AllFrom 32 word
AllFrom-plain word plain = All-weaker (λ b. 33 ≤ b) (λ b. 32 ≤ b) (λ b high. omega arith) word plain.all

with_space : (word rest : List ℕ) → IsPlain word → AllFrom 32 rest → AllFrom 32 (word ++ 32 ∷ rest)
with_space word rest plain all =
    All-append (λ b. 32 ≤ b) word (32 ∷ rest) (AllFrom-plain word plain) (All-cons (λ b. 32 ≤ b) 32 rest (omega arith) all)

pub AllFrom-with_two : (word a b : List ℕ) → IsPlain word → IsPlain a → IsPlain b → AllFrom 32 (with_two word a b)
AllFrom-with_two word a b plain plain_a plain_b = with_space word (a ++ 32 ∷ b) plain (with_space a b plain_a (AllFrom-plain b plain_b))

pub AllFrom-with_three : (word a b c : List ℕ) → IsPlain word → IsPlain a → IsPlain b → IsPlain c → AllFrom 32 (with_three word a b c)
AllFrom-with_three word a b c plain plain_a plain_b plain_c =
    with_space word (with_two a b c) plain (AllFrom-with_two a b c plain_a plain_b plain_c)
