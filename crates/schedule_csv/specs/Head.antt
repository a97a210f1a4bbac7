-- The head row of a table.
use Rattle.std.specs.Prelude.{ℕ, ◌+◌, ◌==◌, ◌&&◌, List, [], ◌∷◌, codes, Option, Some, None, if◌then◌else◌}
use Rattle.std.specs.Option.{option_or}
use Rattle.std.specs.Str.{str_eq_ignore_ascii_case}
use Rattle.schedule_csv.specs.declared.head.GamesHead.{GamesHead}
use Rattle.schedule_csv.specs.Cells.{cells, unmarked}

-- a text without a byte order mark at its front
abbrev pub without_order_mark : List ℕ → List ℕ
without_order_mark [] = []
without_order_mark (a ∷ []) = a ∷ []
without_order_mark (a ∷ b ∷ []) = a ∷ b ∷ []
without_order_mark (a ∷ b ∷ c ∷ rest) = if (a == 239) && (b == 187) && (c == 191) then rest else a ∷ b ∷ c ∷ rest

-- the index of the first cell with this name in any letter case, if those before have so many
abbrev pub column_from : List ℕ → ℕ → List (List ℕ) → Option ℕ
column_from name index [] = None
column_from name index (cell ∷ cells) =
    if str_eq_ignore_ascii_case (unmarked cell) name then Some index else column_from name (index + 1) cells

abbrev pub column_of : List ℕ → List (List ℕ) → Option ℕ
column_of name cells = column_from name 0 cells

-- both teams have to be named
abbrev pub head_of_columns : ℕ → Option ℕ → Option ℕ → Option ℕ → Option GamesHead
head_of_columns separator round (Some home) (Some away) =
    Some (record { separator = separator; round = round; home = home; away = away })
head_of_columns separator round (Some home) None = None
head_of_columns separator round None away = None

-- the head row that a line is, if its cells are separated so
abbrev pub head_by : ℕ → List ℕ → Option GamesHead
head_by separator line =
    head_of_columns separator (column_of (codes "round") (cells separator line)) (column_of (codes "home") (cells separator line))
    (column_of (codes "away") (cells separator line))

-- the head row that a line is: with commas, semicolons or tabs between the cells
abbrev pub head_of_line : List ℕ → Option GamesHead
head_of_line line = option_or (option_or (head_by 44 line) (head_by 59 line)) (head_by 9 line)

-- the head row that a first line is, behind a byte order mark if it has one
abbrev pub head_of : List ℕ → Option GamesHead
head_of line = head_of_line (without_order_mark line)
