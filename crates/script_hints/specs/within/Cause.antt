-- What private functions alone need beside specs/Cause.antt.
use Rattle.std.specs.Prelude.{ℕ, List, [], ◌∷◌, codes, decimal}
use Rattle.std.specs.List.{concat}
use Rattle.league_forms.specs.Forms.{quote_words}
use Rattle.script_hints.specs.declared.cause.LineHint.{LineHint}
use Rattle.script_hints.specs.Cause.{cause_words}

abbrev pub line_words : LineHint → List ℕ
line_words hint = concat (codes "see line " ∷ decimal hint.number ∷ codes ": " ∷ quote_words hint.line ∷ codes ": " ∷ cause_words hint.cause ∷ [])
