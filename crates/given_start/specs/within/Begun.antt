-- What private functions alone need beside specs/Begun.antt.
use Rattle.std.specs.Prelude.{◌≡◌, ◌≢◌}
use Rattle.std.specs.Prelude.{Result, Ok, Err}
use Rattle.league.specs.League.{LeagueData}
use Rattle.given_start.specs.declared.fault.BeginFault.{BeginFault}
use Rattle.given_start.specs.declared.fault.BeginFault.TheVariants.{Memory}

-- what a call gives, if memory is there
abbrev pub Gives : Result LeagueData BeginFault → Result LeagueData BeginFault → Type 0
Gives (Ok l) wanted = wanted ≡ Ok l
Gives (Err fault) wanted = fault ≢ Memory → wanted ≡ Err fault
