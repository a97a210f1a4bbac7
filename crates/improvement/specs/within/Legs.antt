-- What private functions alone need beside specs/Legs.antt.
use Rattle.std.specs.Prelude.{ℕ, ◌==◌, if◌then◌else◌, List}
use Rattle.league.specs.League.{LeagueData}
use Rattle.fixture_board.specs.declared.change.Entry.{Entry}
use Rattle.fixture_board.specs.Rewound.{rewound}
use Rattle.improvement.specs.Legs.{ahead}

-- the history that leads after one more leg than so many
abbrev pub lead_after : LeagueData → ℕ → List Entry → List Entry → List Entry
lead_after league reported leading h = if reported == 0 then rewound league h else ahead league leading h
