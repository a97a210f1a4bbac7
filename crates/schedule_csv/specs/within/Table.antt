-- What private functions alone need beside specs/Table.antt.
use Rattle.std.specs.Prelude.{◌≡◌, ℕ, Vec, List, Result, Ok, Err}
use Rattle.std.specs.declared.alloc.Global.{Global}
use Rattle.schedule_csv.specs.declared.fault.RowFault.{RowFault}
use Rattle.schedule_csv.specs.declared.fault.TableFault.{TableFault}
use Rattle.schedule_csv.specs.declared.fault.TableFault.TheVariants.{Memory, Row}

-- what a call gives for a text that is wanted, if memory is there
abbrev pub GivesText : Result (List ℕ) RowFault → Result (Vec ℕ Global) TableFault → Type 0
GivesText wanted (Ok text) = wanted ≡ Ok text.items
GivesText wanted (Err (Row fault)) = wanted ≡ Err fault
GivesText wanted (Err Memory) = Unit {0}
