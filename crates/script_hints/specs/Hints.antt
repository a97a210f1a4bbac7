-- The first bad line of a text.
use Rattle.std.specs.Prelude.{ℕ, ◌+◌, ◌||◌, Bool, false, List, [], ◌∷◌, Option, None, option_map}
use Rattle.board_texts.specs.Command.{line_of}
use Rattle.league_forms.specs.Forms.{or_else}
use Rattle.script_hints.specs.declared.cause.Cause.{Cause}
use Rattle.script_hints.specs.declared.cause.LineHint.{LineHint}
use Rattle.script_hints.specs.Cause.{quote_of_bytes}
use Rattle.script_hints.specs.Script.{is_bad}

-- the line of this number has a cause
abbrev pub hint_at : ℕ → List ℕ → Option Cause → Option LineHint
hint_at number line cause = option_map (λ why. record { number = number; line = quote_of_bytes line; cause = why }) cause

-- the first line that has one, if the lines are numbered from here
abbrev pub first_hint : (List ℕ → Option Cause) → ℕ → List (List ℕ) → Option LineHint
first_hint cause number [] = None
first_hint cause number (line ∷ lines) = or_else (hint_at number line (cause line)) (first_hint cause (number + 1) lines)

-- a line of the script is bad
abbrev pub has_bad_line : List (List ℕ) → Bool
has_bad_line [] = false
has_bad_line (line ∷ lines) = is_bad (line_of line) || has_bad_line lines
