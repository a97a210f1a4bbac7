-- The cells of a line of a table.
use Rattle.std.specs.Prelude.{ℕ, zero, suc, ◌-◌, ◌==◌, ◌&&◌, ◌||◌, Bool, false, not, List, [], ◌∷◌, map, length, take, slice_index, Option, Some, None, if◌then◌else◌}
use Rattle.std.specs.List.{list_all}
use Rattle.std.specs.Borrow.{Bor}
use Rattle.text_lines.specs.Words.{is_blank}

-- a quotation mark
abbrev pub is_mark : ℕ → Bool
is_mark b = b == 34

-- whether what follows a byte is inside quotation marks
abbrev pub inside_after : ℕ → Bool → Bool
inside_after b inside = if is_mark b then not inside else inside

-- with the byte at the front of the first cell
abbrev pub with_byte : ℕ → List (List ℕ) → List (List ℕ)
with_byte b [] = []
with_byte b (cell ∷ cells) = (b ∷ cell) ∷ cells

-- the cells of bytes that begin inside quotation marks or not: only outside of them a separator stands between cells
abbrev pub parts : ℕ → Bool → List ℕ → List (List ℕ)
parts separator inside [] = [] ∷ []
parts separator inside (b ∷ bs) =
    if not inside && (b == separator) then [] ∷ parts separator false bs
    else with_byte b (parts separator (inside_after b inside) bs)

-- ---- without blanks at the ends

abbrev pub without_front : List ℕ → List ℕ
without_front [] = []
without_front (b ∷ bs) = if is_blank b then without_front bs else b ∷ bs

-- the first n bytes, up to the last of them that is no blank
abbrev pub without_end : ℕ → List ℕ → List ℕ
without_end zero bytes = []
without_end (suc n) bytes = if is_blank (slice_index bytes n) then without_end n bytes else take (suc n) bytes

abbrev pub trimmed : List ℕ → List ℕ
trimmed bytes = without_end (length (without_front bytes)) (without_front bytes)

-- the cells of a line
abbrev pub cells : ℕ → List ℕ → List (List ℕ)
cells separator line = map trimmed (parts separator false line)

-- the cells of what is left of a line, if anything is
abbrev pub cells_left : ℕ → Option (Bor (List ℕ)) → List (List ℕ)
cells_left separator None = []
cells_left separator (Some rest) = cells separator rest.now

-- the cell of this index, if the line has so many
abbrev pub cell_at : List (List ℕ) → ℕ → Option (List ℕ)
cell_at [] index = None
cell_at (cell ∷ more) zero = Some cell
cell_at (cell ∷ more) (suc index) = cell_at more index

-- ---- what a cell says

-- what stands between the quotation marks at both ends, if they are there
abbrev pub unmarked : List ℕ → List ℕ
unmarked [] = []
unmarked (b ∷ bs) =
    if is_mark b && not (length bs == 0) && is_mark (slice_index bs (length bs - 1)) then take (length bs - 1) bs else b ∷ bs

-- whether a byte says nothing of a game
abbrev pub says_nothing : ℕ → ℕ → Bool
says_nothing separator b = (b == separator) || is_blank b || is_mark b

-- whether a row has nothing in its cells
abbrev pub is_empty_row : ℕ → List ℕ → Bool
is_empty_row separator line = list_all (says_nothing separator) line
