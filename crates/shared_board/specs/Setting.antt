-- What the board of a table and all its seats have in common.
use Rattle.std.specs.Prelude.{ℕ, List}
use Rattle.league.specs.League.{LeagueData}
use Rattle.fixture_board.specs.declared.change.Entry.{Entry}
use Rattle.fixture_board.specs.Record.{Book, book}

pub record Setting : Type 0 where
  pub league : LeagueData
  pub room : ℕ

-- the board with this history
abbrev pub board_at : Setting → List Entry → Book
board_at s history = book s.league s.room history
