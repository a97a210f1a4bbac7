-- A history that a seat meets under the turn.
use Rattle.std.specs.Prelude.{ℕ, ◌≤◌, List, length}
use Rattle.fixture_board.specs.declared.change.Entry.{Entry}
use Rattle.fixture_board.specs.History.{IsLegal}
use Rattle.shared_board.specs.Setting.{Setting}
use Rattle.shared_board.specs.Rule.{Knows, Lowest}

-- A history that was met under the turn: it is legal, begins with what the seat had seen, is no shorter than what it
-- glanced, has after what it had seen no entry of the seat's, and had its lowest total at some point not before
pub record IsMet (setting : Setting) (held : List ℕ) (seen : List Entry) (at_glance least : ℕ) (history : List Entry) : Type 0 where
  pub legal : IsLegal setting.league setting.room history
  pub knows : Knows held seen history
  pub glanced : at_glance ≤ length history
  pub lowest : Lowest setting seen history least
