-- What a board shows: its league, its room and its history.
use Rattle.std.specs.Prelude.{ℕ, List}
use Rattle.league.specs.League.{LeagueData}
use Rattle.fixture_board.specs.declared.change.Entry.{Entry}

pub record Book : Type 0 where
  pub league : LeagueData
  pub room : ℕ
  pub history : List Entry

abbrev pub book : LeagueData → ℕ → List Entry → Book
book league room history = record { league = league; room = room; history = history }
