use Rattle.std.proofs.Common.{◌≡◌, ◌<◌, ◌++◌, ◌∷◌, ◌∙◌, sym, map, length, take, append-nil, arith}
use Rattle.std.specs.Str.{chars}
use Rattle.std.specs.Str.Iter.{chars_rest}
use Rattle.std.proofs.Math.ListN.{length-set}
use Rattle.std.proofs.lemmas.Str.{IsUtf8-past_char, chars_past_char}
use Rattle.std.proofs.StrCases.{chars_of_empty}
use Rattle.league_forms.specs.Forms.{quote_of, shown_characters}
use Rattle.league_forms.specs.Shown.{shown_byte}
use Rattle.league_forms.proofs.Quotes.{cut_quote, next_shown, next_zeros, whole_quote}
use Rattle.league_forms.proofs.form.Quote.of.Goals as goal

pub loop-c-preserved : goal.loop-c-preserved
loop-c-preserved c =
    let held = c.loop-c.invariant in
    let parts = c.in-Some.ensures.steps.0 in
    let step = chars_past_char _ _ c.in-Some.c held.utf8 parts in
    let within : c.loop-c.count < length c.loop-c.characters = omega arith in
    let shown : shown_characters c.args.text.now
    ≡ take c.loop-c.count c.loop-c.characters ++ shown_byte c.in-Some.c ∷ map shown_byte (chars (chars_rest c.next.new.self)) = rw step at held.shown in
    record {
      utf8 = IsUtf8-past_char _ _ c.in-Some.c held.utf8 parts;
      size = length-set c.loop-c.characters c.loop-c.count c.shown_character.result ∙ held.size;
      few = omega arith;
      shown = next_shown _ _ _ _ _ within (rw (← c.shown_character.ensures) at shown);
      zeros = next_zeros _ _ _ within held.zeros;
    }

pub returns-then-count-eq-MOST_SHOWN : goal.returns-then-count-eq-MOST_SHOWN
unfolding quote_of
returns-then-count-eq-MOST_SHOWN c =
    let held = c.loop-c.invariant in
    let step = chars_past_char _ _ c.in-Some.c held.utf8 c.in-Some.ensures.steps.0 in
    let shown : shown_characters c.args.text.now
    ≡ take c.loop-c.count c.loop-c.characters ++ shown_byte c.in-Some.c ∷ map shown_byte (chars (chars_rest c.next.new.self)) = rw step at held.shown in
    sym (cut_quote _ _ _ _ held.size (rw c.if-count-eq-MOST_SHOWN.true at shown))

pub returns : goal.returns
unfolding quote_of
returns c =
    let held = c.loop-c.invariant in
    let none = chars_of_empty _ c.in-None.ensures.steps.0.0 in
    let shown : shown_characters c.args.text.now ≡ take c.loop-c.count c.loop-c.characters = (rw none at held.shown) ∙ append-nil _ in
    sym (whole_quote _ _ _ held.size held.few shown held.zeros)
