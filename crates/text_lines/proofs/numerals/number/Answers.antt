use Rattle.std.proofs.Common.{◌≡◌, true, ◌<◌, ◌*◌, ◌+◌, take, sym, ◌∙◌, refl, ap, arith}
use Rattle.std.proofs.lemmas.List.{take_all}
use Rattle.std.specs.Str.{all_ascii_digits}
use Rattle.std.specs.Str.Parse.{digits_value}
use Rattle.text_lines.proofs.Digits.{few_digits, digit_at, from_zero, one_digit_more, none_long, none_other, some_number}
use Rattle.text_lines.proofs.numerals.number.Goals as goal
use Rattle.text_lines.proofs.numerals.number.Goals.{then-is_empty-via-then-is_empty}
use Rattle.text_lines.proofs.numerals.number.Goals.{then-is_empty-via-else-is_empty+then-word-gt-MAX_DIGITS}
use Rattle.text_lines.proofs.numerals.number.Goals.{then-is_empty-via-else-is_empty+else-word-gt-MAX_DIGITS+then-not-are_digits}

pub returns-then-is_empty : goal.returns-then-is_empty
returns-then-is_empty c =
    let word = c.args.word.now in
    elim c.then-is_empty.branch [
      | then-is_empty-via-then-is_empty w ↦ rw (sym c.is_empty.ensures ∙ w.if-is_empty.true) refl
      | then-is_empty-via-else-is_empty+then-word-gt-MAX_DIGITS w ↦ sym (none_long word w.if-word-gt-MAX_DIGITS.true)
      | then-is_empty-via-else-is_empty+else-word-gt-MAX_DIGITS+then-not-are_digits w ↦
          sym (none_other word (sym c.is_empty.ensures ∙ w.if-is_empty.false) w.if-word-gt-MAX_DIGITS.false
          (sym w.are_digits.ensures ∙ w.if-not-are_digits.true))
    ]

pub overflow_sub-digit : goal.overflow_sub-digit
overflow_sub-digit c =
    from_zero _ (digit_at c.args.word.now c.loop-digit.digit-index
    (sym c.are_digits.ensures ∙ c.if-not-are_digits.false) c.loop-digit-test.true)

pub overflow_mul-value : goal.overflow_mul-value
overflow_mul-value c =
    let bound = few_digits c.args.word.now c.loop-digit.digit-index
    (sym c.are_digits.ensures ∙ c.if-not-are_digits.false) c.if-word-gt-MAX_DIGITS.false in
    let value : c.loop-digit.value ≡ digits_value 10 (take c.loop-digit.digit-index c.args.word.now) = c.loop-digit.invariant in
    let below : c.loop-digit.value < 100000000000000000000 = rw value bound in
    omega arith

pub overflow_add-value : goal.overflow_add-value
overflow_add-value c =
    let word = c.args.word.now in
    let digits : all_ascii_digits word ≡ true = sym c.are_digits.ensures ∙ c.if-not-are_digits.false in
    let bound = few_digits word (c.loop-digit.digit-index + 1) digits c.if-word-gt-MAX_DIGITS.false in
    let value : c.loop-digit.value * 10 + c.from.result ≡ digits_value 10 (take (c.loop-digit.digit-index + 1) word) =
    rw (c.loop-digit.invariant, c.from.ensures) (one_digit_more word c.loop-digit.digit-index digits c.loop-digit-test.true) in
    let below : c.loop-digit.value * 10 + c.from.result < 100000000000000000000 = rw value bound in
    omega arith

pub loop-digit-preserved : goal.loop-digit-preserved
loop-digit-preserved c =
    let word = c.args.word.now in
    let digits : all_ascii_digits word ≡ true = sym c.are_digits.ensures ∙ c.if-not-are_digits.false in
    rw (c.loop-digit.invariant, c.from.ensures) (one_digit_more word c.loop-digit.digit-index digits c.loop-digit-test.true)

pub returns : goal.returns
returns c =
    let word = c.args.word.now in
    let digits : all_ascii_digits word ≡ true = sym c.are_digits.ensures ∙ c.if-not-are_digits.false in
    let value : c.loop-digit.value ≡ digits_value 10 word = c.loop-digit.invariant ∙
    ap (digits_value 10) (take_all c.loop-digit.digit-index word (omega arith)) in
    let number = some_number word c.loop-digit.value
    (sym c.is_empty.ensures ∙ c.if-is_empty.false) c.if-word-gt-MAX_DIGITS.false digits value in
    c.fitting.ensures ∙ number
