-- What private functions alone need beside specs/Rule.antt.
use Rattle.std.specs.Prelude.{[], ◌∷◌, true, false}
use Rattle.league.specs.within.League.{no_league}
use Rattle.fixture_board.specs.Laws.{least_of}
use Rattle.fixture_board.specs.Record.{Book}
use Rattle.shared_board.specs.declared.view.View.{View}
use Rattle.shared_board.specs.Stage.{away}

-- the first seat of a board without an entry
abbrev pub first_view : Book → View
first_view b = record {
  setting = record { league = b.league; room = b.room };
  live = true;
  held = 0 ∷ [];
  seen = [];
  glanced = 0;
  lowest = least_of b.league [];
  given = 1;
  formers = [];
  stage = away;
}

-- a view that another seat has taken in
abbrev pub spent_view : View
spent_view = record {
  setting = record { league = no_league; room = 0 };
  live = false;
  held = [];
  seen = [];
  glanced = 0;
  lowest = 0;
  given = 0;
  formers = [];
  stage = away;
}
