-- What private functions alone need beside specs/Reading.antt.
use Rattle.std.specs.Prelude.{◌≡◌, ◌≢◌, Result, Ok, Err}
use Rattle.league_csv.specs.declared.fault.DistanceFault.{DistanceFault}
use Rattle.league_csv.specs.declared.fault.DistanceFault.TheVariants.{Memory}

-- What a function returned, seen by view, is what the reading gives, unless memory ran out.
abbrev pub Gives : {X Y : Type 0} → (X → Y) → Result X DistanceFault → Result Y DistanceFault → Type 0
Gives view (Ok x) reading = reading ≡ Ok (view x)
Gives view (Err fault) reading = fault ≢ Memory → reading ≡ Err fault
