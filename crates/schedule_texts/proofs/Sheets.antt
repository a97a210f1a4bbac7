-- The last sheet of a text, while its lines are read.
use Rattle.std.proofs.Common.{◌≡◌, ℕ, zero, suc, ◌+◌, true, false, List, [], ◌∷◌, ◌++◌, refl, ◌∙◌, ap}
use Rattle.std.proofs.Common.{replicate, add-one, arith}
use Rattle.std.specs.Str.Lines.{lines}
use Rattle.std.proofs.lemmas.Bool.{or_parts}
use Rattle.text_lines.specs.Words.{words_of}
use Rattle.schedule_texts.specs.declared.last_sheet.LastSheet.{LastSheet}
use Rattle.schedule_texts.specs.Faults.{bad_lines}
use Rattle.schedule_texts.specs.LastSheet.{begins_sheet, has_round_line, has_sheet_line, last_sheet}
use Rattle.schedule_texts.specs.within.LastSheet.{IsLastSheet}
use Rattle.schedule_texts.specs.ScheduleText.{has_bad_line, written_games}

-- n blank lines, and then others
abbrev pub below : ℕ → List (List ℕ) → List (List ℕ)
below n lines = replicate n [] ++ lines

-- lines of which none begins a sheet are one
pub sheet_alone : (lines : List (List ℕ)) → has_sheet_line lines ≡ false → last_sheet lines ≡ lines
sheet_alone [] none = refl
sheet_alone (line ∷ lines) none =
    let parts = or_parts (begins_sheet (words_of line)) (has_sheet_line lines) none in
    rw (none, sheet_alone lines parts.1) refl

-- one blank line more
blank_after : (n : ℕ) (lines : List (List ℕ)) → below n ([] ∷ lines) ≡ below (suc n) lines
blank_after zero lines = refl
blank_after (suc n) lines = rw (blank_after n lines) refl

-- so far `number` lines were read, and `rest` is left: the last sheet of all lines begins in the rest, or is `sheet`,
-- with `before` lines before it
pub record IsSought (all : List (List ℕ)) (number : ℕ) (rest : List (List ℕ)) (before : ℕ) (sheet : List (List ℕ)) : Type 0 where
  pub later : has_sheet_line rest ≡ true → last_sheet all ≡ below number (last_sheet rest)
  pub found : has_sheet_line rest ≡ false → last_sheet all ≡ below before sheet

pub seek : (all : List (List ℕ)) → IsSought all 0 all 0 all
seek all = record { later = λ has. refl; found = sheet_alone all }

pub seek_begun : (all : List (List ℕ)) (number : ℕ) (line : List ℕ) (rest : List (List ℕ)) (before : ℕ) (sheet : List (List ℕ))
    → begins_sheet (words_of line) ≡ true → IsSought all number (line ∷ rest) before sheet → IsSought all (number + 1) rest (number + 1) rest
seek_begun all number line rest before sheet begins so_far =
    let has : has_sheet_line (line ∷ rest) ≡ true = rw begins refl in
    let here : last_sheet all ≡ below (suc number) (last_sheet rest) =
    so_far.later has ∙ rw has (blank_after number (last_sheet rest)) in
    rw add-one (record { later = λ later. here; found = λ none. here ∙ ap (below (suc number)) (sheet_alone rest none) })

pub seek_on : (all : List (List ℕ)) (number : ℕ) (line : List ℕ) (rest : List (List ℕ)) (before : ℕ) (sheet : List (List ℕ))
    → begins_sheet (words_of line) ≡ false → IsSought all number (line ∷ rest) before sheet → IsSought all (number + 1) rest before sheet
seek_on all number line rest before sheet goes so_far =
    let same : has_sheet_line (line ∷ rest) ≡ has_sheet_line rest = rw goes refl in
    rw add-one (record {
      later = λ has. so_far.later (same ∙ has) ∙ rw (same ∙ has) (blank_after number (last_sheet rest));
      found = λ none. so_far.found (same ∙ none);
    })

-- ---- blank lines say nothing

written_below : (n : ℕ) (left : List (List ℕ)) → written_games (below n left) ≡ written_games left
written_below zero left = refl
written_below (suc n) left = written_below n left

bad_below : (n : ℕ) (left : List (List ℕ)) → has_bad_line (below n left) ≡ has_bad_line left
bad_below zero left = refl
bad_below (suc n) left = bad_below n left

round_below : (n : ℕ) (left : List (List ℕ)) → has_round_line (below n left) ≡ has_round_line left
round_below zero left = refl
round_below (suc n) left = round_below n left

numbered_below : (n number : ℕ) (left : List (List ℕ)) → bad_lines number (below n left) ≡ bad_lines (n + number) left
numbered_below zero number left =
    let e : 0 + number ≡ number = omega arith in
    rw e refl
numbered_below (suc n) number left =
    let e : n + (number + 1) ≡ suc n + number = omega arith in
    numbered_below n (number + 1) left ∙ ap (λ (k : ℕ). bad_lines k left) e

module _ (text : List ℕ) (sheet : LastSheet) (is : IsLastSheet text sheet) where
  pub sheet_written : written_games (last_sheet (lines text)) ≡ written_games (lines sheet.text.now)
  sheet_written = ap written_games is.lines_are ∙ written_below sheet.before (lines sheet.text.now)

  pub sheet_bad : has_bad_line (last_sheet (lines text)) ≡ has_bad_line (lines sheet.text.now)
  sheet_bad = ap has_bad_line is.lines_are ∙ bad_below sheet.before (lines sheet.text.now)

  pub sheet_round : has_round_line (last_sheet (lines text)) ≡ has_round_line (lines sheet.text.now)
  sheet_round = ap has_round_line is.lines_are ∙ round_below sheet.before (lines sheet.text.now)

  pub sheet_numbered : bad_lines 1 (last_sheet (lines text)) ≡ bad_lines (sheet.before + 1) (lines sheet.text.now)
  sheet_numbered = ap (bad_lines 1) is.lines_are ∙ numbered_below sheet.before 1 (lines sheet.text.now)
