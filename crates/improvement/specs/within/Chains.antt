-- What private functions alone need beside specs/Chains.antt.
use Rattle.std.specs.Prelude.{◌≡◌}
use Rattle.league.specs.League.{LeagueData, teams}
use Rattle.improvement.specs.declared.chains.ChainBest.{ChainBest}

-- it is a schedule of the league's teams
abbrev pub IsInLeague : LeagueData → ChainBest → Type 0
IsInLeague league best = best.schedule.teams ≡ teams league
