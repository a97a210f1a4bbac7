-- The league at which a command begins, or why there is none.
use Rattle.std.specs.Prelude.{◌≡◌, ℕ, List, Option, Some, None, Result, Ok, Err}
use Rattle.league.specs.League.{LeagueData}
use Rattle.league_json.specs.League.{league_of}
use Rattle.given_start.specs.declared.fault.BeginFault.{BeginFault}
use Rattle.given_start.specs.declared.begun.Beginning.{Beginning}
use Rattle.given_start.specs.Begun.{begun}
use Rattle.commands.specs.declared.fault.ProgramFault.{ProgramFault}
use Rattle.commands.specs.declared.fault.ProgramFault.TheVariants.{League, Begin}

-- the league that begins there, or at its own start
abbrev pub begun_if : Option Beginning → LeagueData → Result LeagueData BeginFault
begun_if None league = Ok league
begun_if (Some beginning) league = begun league beginning

-- the league that a text stands for, where it is to begin
pub record Begins (bytes : List ℕ) (beginning : Option Beginning) (begins : LeagueData) : Type 0 where
  pub league : LeagueData
  pub league_is : league_of bytes ≡ Ok league
  pub begins_is : begun_if beginning league ≡ Ok begins

-- the league that a text stands for doesn't begin there
pub record BeginsNot (bytes : List ℕ) (beginning : Option Beginning) (fault : BeginFault) : Type 0 where
  pub league : LeagueData
  pub league_is : league_of bytes ≡ Ok league
  pub fault_is : begun_if beginning league ≡ Err fault

-- the first fault of a league's text, or that the league doesn't begin there
abbrev pub Refuses : List ℕ → Option Beginning → ProgramFault → Type 0
Refuses bytes beginning (League fault) = league_of bytes ≡ Err fault
Refuses bytes beginning (Begin fault) = BeginsNot bytes beginning fault
Refuses bytes beginning fault = ⊥
