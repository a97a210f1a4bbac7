-- What private functions alone need beside specs/Reading.antt.
use Rattle.std.specs.Prelude.{Result, Ok, Err}
use Rattle.league.specs.declared.fault.LeagueFault.{LeagueFault}

-- what a function returned, seen by view
abbrev pub seen : {X Y : Type 0} → (X → Y) → Result X LeagueFault → Result Y LeagueFault
seen view (Ok x) = Ok (view x)
seen view (Err fault) = Err fault
