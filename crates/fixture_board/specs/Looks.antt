-- A look at a board.
use Rattle.std.specs.Prelude.{◌==◌, if◌then◌else◌}
use Rattle.fixtures.specs.Games.{Games}

-- the schedule, if the copy is for as many teams
abbrev pub copied : Games → Games → Games
copied old shown = if old.teams == shown.teams then shown else old
