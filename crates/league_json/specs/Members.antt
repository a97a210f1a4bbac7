-- Members of a league's text that have to be there, and members that may be absent.
use Rattle.std.specs.Prelude.{Option, Some, None, Result, Ok, Err}
use Rattle.serde_json.specs.Data.{Data}
use Rattle.league.specs.declared.fault.Field.{Field}
use Rattle.league.specs.declared.fault.LeagueFault.{LeagueFault}
use Rattle.league.specs.declared.fault.LeagueFault.TheVariants.{MissingField, WrongKind}
use Rattle.league.specs.Reading.{or_fault}

-- a member that has to be there, in its form
abbrev pub needed : {A : Type 0} → Field → (Data → Option A) → Option Data → Result A LeagueFault
needed field form None = Err (MissingField field)
needed field form (Some d) = or_fault (WrongKind field) (form d)

-- a member that may be absent
abbrev pub optional : {A : Type 0} → Field → (Data → Option A) → A → Option Data → Result A LeagueFault
optional field form default None = Ok default
optional field form default (Some d) = or_fault (WrongKind field) (form d)
