-- What private functions alone need beside specs/Seats.antt.
use Rattle.std.specs.Prelude.{Some, ◌≡◌, ℕ, ◌<◌, ◌≤◌, List}
use Rattle.std.specs.Prelude.{[], ◌∷◌, length, true}
use Rattle.fixture_board.specs.declared.change.Entry.{Entry}
use Rattle.shared_board.specs.Setting.{board_at}
use Rattle.shared_board.specs.Stage.{away}
use Rattle.shared_board.specs.Held.{times, under}
use Rattle.shared_board.specs.within.Plays.{Token}

-- between calls a seat holds neither the turn nor the board
pub record IsIdle (me : Token) : Type 0 where
  pub live : me.0.live ≡ true
  pub away_is : me.0.stage ≡ away
  pub no_slot : me.1 ≡ []

-- the fields of a seat stand to what it knows: its number, how many it holds, how long the history was, and its
-- entries in it
pub record IsSeat (me : Token) (number held seen accepted : ℕ) : Type 0 where
  pub idle : IsIdle me
  pub own : 0 < times number me.0.held
  pub single : (x : ℕ) → times x me.0.held ≤ 1
  pub count : held ≡ length me.0.held
  pub long : seen ≡ length me.0.seen
  pub entries : accepted ≡ under me.0.held me.0.seen
  pub below : (x : ℕ) → me.0.given ≤ x → times x me.0.held ≡ 0
  pub ahead : length me.0.seen ≤ me.0.glanced

-- the seat has the board, with this history
abbrev pub HasBoard : Token → List Entry → Type 0
HasBoard me h = me.1 ≡ (0, Some (board_at me.0.setting h)) ∷ []
