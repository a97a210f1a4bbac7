-- The lines of the workers.
use Rattle.std.proofs.Common.{◌≡◌, ℕ, ◌+◌, ◌<◌, add-one, List, ◌∷◌, ◌++◌, length, get_or, drop, refl, drop-cons}
use Rattle.search.specs.declared.workers.Report.{Report}
use Rattle.board_texts.specs.SearchText.{worker_line}
use Rattle.commands.specs.Find.{worker_lines}

-- the lines of the reports from one on
pub workers_from : (rs : List Report) (i : ℕ) (r : Report) → i < length rs → r ≡ get_or rs i r
    → worker_lines (i + 1) (drop i rs) ≡ worker_line (i + 1) r.made r.accepted r.refused ++ worker_lines (i + 1 + 1) (drop (i + 1) rs)
workers_from rs i r within is =
    let here : drop i rs ≡ get_or rs i r ∷ drop (i + 1) rs = rw (add-one, drop-cons rs i r) refl in
    rw here (rw (← is) refl)
