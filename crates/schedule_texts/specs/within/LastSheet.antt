-- What private functions alone need beside specs/LastSheet.antt.
use Rattle.std.specs.Prelude.{◌≡◌, ℕ, ◌+◌, ◌≤◌, List, [], ◌++◌, length, replicate}
use Rattle.std.specs.Str.Lines.{lines}
use Rattle.schedule_texts.specs.declared.last_sheet.LastSheet.{LastSheet}
use Rattle.schedule_texts.specs.LastSheet.{last_sheet}

-- a sheet is the last one of a text: so many lines stand before it
pub record IsLastSheet (text : List ℕ) (sheet : LastSheet) : Type 0 where
  pub lines_are : last_sheet (lines text) ≡ replicate sheet.before [] ++ lines sheet.text.now
  pub few : sheet.before + length sheet.text.now ≤ length text
