-- What private functions alone need beside specs/Hints.antt.
use Rattle.std.specs.Prelude.{ℕ, List, Option, None, if◌then◌else◌}
use Rattle.text_lines.specs.Words.{words_of}
use Rattle.schedule_texts.specs.LastSheet.{begins_sheet}
use Rattle.league_forms.specs.Forms.{or_else}
use Rattle.script_hints.specs.declared.cause.LineHint.{LineHint}
use Rattle.script_hints.specs.Schedule.{schedule_cause}
use Rattle.script_hints.specs.Hints.{hint_at}

-- the first hint of the last sheet so far, after a line of this number
abbrev pub hint_so_far : Option LineHint → ℕ → List ℕ → Option LineHint
hint_so_far hint number line =
    if begins_sheet (words_of line) then None else or_else hint (hint_at number line (schedule_cause line))
