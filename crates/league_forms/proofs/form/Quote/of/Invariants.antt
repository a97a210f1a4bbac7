-- The characters so far, with those that are left, are all that are shown, and zeros stand behind them.
use Rattle.std.proofs.Common.{◌≡◌, ◌-◌, ◌≤◌, ◌++◌, IsUtf8, length, map, take, drop, replicate}
use Rattle.std.specs.Str.Iter.{chars_rest}
use Rattle.std.specs.Str.{chars}
use Rattle.league_forms.specs.Forms.{shown_characters}
use Rattle.league_forms.specs.Shown.{shown_byte}
use Rattle.league_forms.proofs.form.Quote.of.Given as goal

abbrev pub invariant-loop-c : goal.invariant-loop-c
invariant-loop-c l = record {
  utf8 : IsUtf8 (chars_rest l.c-iterator);
  size : length l.characters ≡ 40;
  few : l.count ≤ 40;
  shown : shown_characters l.text ≡ take l.count l.characters ++ map shown_byte (chars (chars_rest l.c-iterator));
  zeros : drop l.count l.characters ≡ replicate (40 - l.count) 0;
}
