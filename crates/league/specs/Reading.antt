-- Answers with the first fault, and what a function of the code owes to a definition that gives one.
use Rattle.std.specs.Prelude.{◌≡◌, ◌≢◌, Bool, true, false, Option, Some, None, Result, Ok, Err, ⊤}
use Rattle.league.specs.declared.fault.LeagueFault.{LeagueFault}
use Rattle.league.specs.declared.fault.LeagueFault.TheVariants.{Memory}

infixl 10 ◌>>=◌
abbrev pub ◌>>=◌ : {A B : Type 0} → Result A LeagueFault → (A → Result B LeagueFault) → Result B LeagueFault
(Ok x) >>= f = f x
(Err fault) >>= f = Err fault

-- the value, or this fault if there is none
abbrev pub or_fault : {A : Type 0} → LeagueFault → Option A → Result A LeagueFault
or_fault fault (Some x) = Ok x
or_fault fault None = Err fault

-- this fault if the test fails
abbrev pub unless : Bool → LeagueFault → Result ⊤ LeagueFault
unless true fault = Ok tt
unless false fault = Err fault

-- What a function returned, seen by view, is what the reading gives, unless memory ran out.
abbrev pub Gives : {X Y : Type 0} → (X → Y) → Result X LeagueFault → Result Y LeagueFault → Type 0
Gives view (Ok x) reading = reading ≡ Ok (view x)
Gives view (Err fault) reading = fault ≢ Memory → reading ≡ Err fault
