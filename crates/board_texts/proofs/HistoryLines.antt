-- The lines of a history, by what is left of them.
use Rattle.std.proofs.Common.{◌≡◌, ℕ, ◌+◌, ◌<◌, add-one, List, ◌∷◌, ◌++◌, length, get_or, drop, refl, drop-cons}
use Rattle.fixture_board.specs.declared.change.Entry.{Entry}
use Rattle.board_texts.specs.PlayText.{change_line, change_lines}

-- the lines of a history from an entry on
pub lines_from : (h : List Entry) (i : ℕ) (e : Entry) → i < length h → e ≡ get_or h i e → change_lines (drop i h) ≡ change_line e.change ++
    change_lines (drop (i + 1) h)
lines_from h i e within is =
    let here : drop i h ≡ get_or h i e ∷ drop (i + 1) h = rw (add-one, drop-cons h i e) refl in
    rw here (rw (← is) refl)
