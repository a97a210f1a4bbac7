-- Answers with the first fault, and what a function of the code owes to a definition that gives one.
use Rattle.std.specs.Prelude.{ℕ, ◌+◌, List, ◌++◌, Bool, true, false, Result, Ok, Err, ⊤}
use Rattle.league_csv.specs.declared.fault.DistanceCellFault.{DistanceCellFault}
use Rattle.league_csv.specs.declared.fault.DistanceFault.{DistanceFault}
use Rattle.league_csv.specs.declared.fault.DistanceFault.TheVariants.{Cell}

infixl 10 ◌>>=◌
abbrev pub ◌>>=◌ : {A B : Type 0} → Result A DistanceFault → (A → Result B DistanceFault) → Result B DistanceFault
(Ok x) >>= f = f x
(Err fault) >>= f = Err fault

-- this fault if the test fails
abbrev pub unless : Bool → DistanceFault → Result ⊤ DistanceFault
unless true fault = Ok tt
unless false fault = Err fault

-- the fault of the cell in a column, which counts from 0
abbrev pub cell_fault : ℕ → ℕ → DistanceCellFault → DistanceFault
cell_fault line column why = Cell (record { line = line; column = column + 1; why = why })

-- what a cell gives, or its fault at its place
abbrev pub placed : {A : Type 0} → ℕ → ℕ → Result A DistanceCellFault → Result A DistanceFault
placed line column (Ok x) = Ok x
placed line column (Err why) = Err (cell_fault line column why)

-- what stands in front of a list that was read
abbrev pub behind : {A : Type 0} → List A → Result (List A) DistanceFault → Result (List A) DistanceFault
behind front (Ok more) = Ok (front ++ more)
behind front (Err fault) = Err fault
