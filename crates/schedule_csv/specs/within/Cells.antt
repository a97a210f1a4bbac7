-- What private functions alone need beside specs/Cells.antt.
use Rattle.std.specs.Prelude.{ℕ, suc, ◌==◌, ◌&&◌, Bool, not, List, [], ◌∷◌, if◌then◌else◌}
use Rattle.schedule_csv.specs.Cells.{inside_after}

-- how long the first of them is
abbrev pub cell_length : ℕ → Bool → List ℕ → ℕ
cell_length separator inside [] = 0
cell_length separator inside (b ∷ bs) =
    if not inside && (b == separator) then 0 else suc (cell_length separator (inside_after b inside) bs)
