-- The table that a league is made of.
use Rattle.std.proofs.Common.{◌≡◌, ℕ, List, length, Option, Ok, refl, ap}
use Rattle.league_csv.specs.declared.measures.Measure.{Measure}
use Rattle.choices.specs.declared.symmetry.Symmetry.{Symmetry}
use Rattle.league_csv.specs.League.{agreed, table_for}
use Rattle.league_csv.specs.Table.{TableData, table_of}

pub agreed_table : (choice : Option Symmetry) (text : List ℕ) (table : TableData) → table_of text ≡ Ok table
    → agreed choice (length table.names) table.rows ≡ Ok tt → table_for choice text ≡ Ok table
unfolding table_for
agreed_table choice text table read both = rw (read, both) refl
