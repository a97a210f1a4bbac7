-- The first hint of the last sheet, as a loop over all lines finds it.
use Rattle.std.proofs.Common.{◌≡◌, ℕ, ◌+◌, ◌∙◌, ◌||◌, if◌then◌else◌, List, [], ◌∷◌, Bool, true, false, Option, Some, None, cond, refl, sym}
use Rattle.text_lines.specs.Words.{words_of}
use Rattle.schedule_texts.specs.LastSheet.{begins_sheet, has_sheet_line, last_sheet}
use Rattle.league_forms.specs.Forms.{or_else}
use Rattle.script_hints.specs.declared.cause.LineHint.{LineHint}
use Rattle.script_hints.specs.Hints.{first_hint, hint_at}
use Rattle.script_hints.specs.within.Hints.{hint_so_far}
use Rattle.script_hints.specs.Schedule.{schedule_cause}

-- the hint after these lines, the first of which has this number
abbrev pub hint_after : Option LineHint → ℕ → List (List ℕ) → Option LineHint
hint_after hint number [] = hint
hint_after hint number (line ∷ lines) = hint_after (hint_so_far hint number line) (number + 1) lines

or_else_first : (hint first more : Option LineHint) → or_else (or_else hint first) more ≡ or_else hint (or_else first more)
or_else_first None first more = refl
or_else_first (Some h) first more = refl

or_else_none : (hint : Option LineHint) → or_else hint None ≡ hint
or_else_none None = refl
or_else_none (Some h) = refl

-- a line more, whether it begins a sheet or not, and whether one does behind it or not
stepped : (begins more : Bool) (hint left found : Option LineHint) (number : ℕ) (line : List ℕ) →
    found ≡ cond more left (or_else (if begins then None else or_else hint (hint_at number line (schedule_cause line))) left) →
    found ≡ cond (begins || more)
    (or_else (hint_at number (if begins || more then [] else line) (schedule_cause (if begins || more then [] else line))) left)
    (or_else hint (or_else (hint_at number (if begins || more then [] else line) (schedule_cause (if begins || more then [] else line))) left))
stepped true true hint left found number line e = e
stepped true false hint left found number line e = e
stepped false true hint left found number line e = e
stepped false false hint left found number line e = e ∙ or_else_first hint (hint_at number line (schedule_cause line)) left

sheet_hint : (hint : Option LineHint) (number : ℕ) (lines : List (List ℕ)) → hint_after hint number lines ≡ cond (has_sheet_line lines)
    (first_hint schedule_cause number (last_sheet lines)) (or_else hint (first_hint schedule_cause number (last_sheet lines)))
sheet_hint hint number [] = sym (or_else_none hint)
sheet_hint hint number (line ∷ lines) =
    stepped (begins_sheet (words_of line)) (has_sheet_line lines) hint _ _ number line (sheet_hint (hint_so_far hint number line) (number + 1) lines)

either : (more : Bool) (found left : Option LineHint) → found ≡ cond more left left → found ≡ left
either true found left e = e
either false found left e = e

pub hint_of_sheet : (lines : List (List ℕ)) → hint_after None 1 lines ≡ first_hint schedule_cause 1 (last_sheet lines)
hint_of_sheet lines = either (has_sheet_line lines) _ _ (sheet_hint None 1 lines)
