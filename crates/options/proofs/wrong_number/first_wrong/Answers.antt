use Rattle.std.proofs.Common.{◌≡◌, ◌∙◌, ◌+◌, ◌∷◌, None, Some, ap, drop, map, option_map, string_bytes, sym}
use Rattle.options.specs.within.WrongNumbers.{option_at, value_at, wanting_of, wrong_from, wrong_if_any, wrong_of}
use Rattle.options.proofs.WrongNumbers.{goes_on, next_at, stops, tells}
use Rattle.options.proofs.wrong_number.first_wrong.Goals as goal

pub returns-then-eq : goal.returns-then-eq
returns-then-eq c =
    let l = c.loop-word in
    let command = c.args.command.now in
    let waiting = option_map wanting_of l.waiting in
    let word = c.as_str-word.result.now in
    let rest = drop (l.word-index + 1) (map string_bytes c.args.words.now) in
    let next : drop l.word-index (map string_bytes c.args.words.now) ≡ word ∷ rest =
    next_at string_bytes c.args.words.now l.word-index c.word-item.result _ c.loop-word-test.true c.word-item.is
    ∙ ap (λ text. text ∷ rest) (sym c.as_str-word.ensures.value) in
    sym (l.invariant ∙ ap (wrong_from command waiting) next ∙ stops command waiting word rest (sym c.eq.ensures ∙ c.if-eq.true))

pub returns-in-Some : goal.returns-in-Some
returns-in-Some c =
    let l = c.loop-word in
    let command = c.args.command.now in
    let waiting = option_map wanting_of l.waiting in
    let word = c.as_str-word.result.now in
    let rest = drop (l.word-index + 1) (map string_bytes c.args.words.now) in
    let next : drop l.word-index (map string_bytes c.args.words.now) ≡ word ∷ rest =
    next_at string_bytes c.args.words.now l.word-index c.word-item.result _ c.loop-word-test.true c.word-item.is
    ∙ ap (λ text. text ∷ rest) (sym c.as_str-word.ensures.value) in
    let is : wrong_if_any (option_at command waiting word) (value_at waiting word) ≡ Some (wrong_of c.in-Some.wrong) =
    rw (← c.option_at-option.ensures, ← c.value_at-value.ensures) (sym c.wrong_if_any.ensures ∙ ap (option_map wrong_of) c.in-Some.is) in
    sym (l.invariant ∙ ap (wrong_from command waiting) next
    ∙ tells command waiting word rest (wrong_of c.in-Some.wrong) (sym c.eq.ensures ∙ c.if-eq.false) is)

pub loop-word-preserved : goal.loop-word-preserved
loop-word-preserved c =
    let l = c.loop-word in
    let command = c.args.command.now in
    let waiting = option_map wanting_of l.waiting in
    let word = c.as_str-word.result.now in
    let rest = drop (l.word-index + 1) (map string_bytes c.args.words.now) in
    let next : drop l.word-index (map string_bytes c.args.words.now) ≡ word ∷ rest =
    next_at string_bytes c.args.words.now l.word-index c.word-item.result _ c.loop-word-test.true c.word-item.is
    ∙ ap (λ text. text ∷ rest) (sym c.as_str-word.ensures.value) in
    let is : wrong_if_any (option_at command waiting word) (value_at waiting word) ≡ None =
    rw (← c.option_at-option.ensures, ← c.value_at-value.ensures) (sym c.wrong_if_any.ensures ∙ ap (option_map wrong_of) c.in_default.is) in
    l.invariant ∙ ap (wrong_from command waiting) next ∙ goes_on command waiting word rest (sym c.eq.ensures ∙ c.if-eq.false) is
    ∙ ap (λ w. wrong_from command w rest)
    (rw (← c.option_at-option.ensures, ← c.value_at-value.ensures) (sym c.waits-waiting.ensures))
