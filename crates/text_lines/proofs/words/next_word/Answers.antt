use Rattle.std.proofs.Common.{◌≡◌, ◌<◌, ◌≤◌, not, length, arith, ◌∙◌}
use Rattle.std.proofs.lemmas.Bool.Decides.{nat_tests}
use Rattle.std.proofs.lemmas.List.{length-take-le}
use Rattle.std.proofs.lemmas.List.Sums.{prefix_len-le-length}
use Rattle.text_lines.specs.Words.{is_blank, words_of}
use Rattle.text_lines.proofs.Splitting.{blanks_dropped, no_word, first_word, word_begins, is_word-some}
use Rattle.text_lines.proofs.words.next_word.Goals as goal

pub rest_from-text-requires : goal.rest_from-text-requires
rest_from-text-requires c = omega (arith, prefix_len-le-length (λ b. not (not (is_blank b))) c.args.line.now.now)

pub rest_from-requires : goal.rest_from-requires
rest_from-requires c = omega (arith, prefix_len-le-length (λ b. not (is_blank b)) c.rest_from-text.result.now)

pub returns-then-is_empty-clause-none : goal.returns-then-is_empty-clause-none
returns-then-is_empty-clause-none c =
    let line = c.args.line.now.now in
    let text = c.rest_from-text.result.now in
    let none : length text ≤ 0 = grind (arith, nat_tests, c.is_empty.ensures) in
    let dropped : words_of line ≡ words_of text = rw (c.rest_from-text.ensures, c.blanks.ensures) (blanks_dropped line) in
    dropped ∙ no_word text none

pub returns-clause-some : goal.returns-clause-some
returns-clause-some c =
    let line = c.args.line.now.now in
    let text = c.rest_from-text.result.now in
    let dropped : words_of line ≡ words_of text = rw (c.rest_from-text.ensures, c.blanks.ensures) (blanks_dropped line) in
    let some : 0 < length text = grind (arith, nat_tests, c.is_empty.ensures) in
    let begins = word_begins line text (rw c.blanks.ensures at c.rest_from-text.ensures) some in
    rw c.rest_from.ensures (dropped ∙ first_word text c.word_length-length.result c.word_length-length.ensures (omega arith))

pub returns-clause-word : goal.returns-clause-word
returns-clause-word c =
    let line = c.args.line.now.now in
    let text = c.rest_from-text.result.now in
    let some : 0 < length text = grind (arith, nat_tests, c.is_empty.ensures) in
    let begins = word_begins line text (rw c.blanks.ensures at c.rest_from-text.ensures) some in
    let within : c.word_length-length.result ≤ length text = omega (arith, prefix_len-le-length (λ b. not (is_blank b)) text) in
    is_word-some _ (omega (arith, length-take-le c.word_length-length.result text within))
