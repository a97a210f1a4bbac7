-- What a whole turn makes of a seat, and what two seats make together.
use Rattle.std.specs.Prelude.{◌≡◌, ◌==◌, ◌+◌, ◌≤◌, max, ℕ, List, length}
use Rattle.fixture_board.specs.declared.change.Entry.{Entry}
use Rattle.fixture_board.specs.declared.reply.Reply.{Reply}
use Rattle.fixture_board.specs.declared.reply.Reply.TheVariants.{Done, No}
use Rattle.fixture_board.specs.Record.{Book}
use Rattle.shared_board.specs.Setting.{board_at}
use Rattle.shared_board.specs.Held.{times, under}
use Rattle.shared_board.specs.within.Plays.{Token, Meets}
use Rattle.shared_board.specs.within.Seats.{IsIdle, IsSeat}

-- A seat's fields after a call: what was granted is one more of its entries, and the answer tells how long the history
-- is then
abbrev pub IsSeatAfter : Token → ℕ → ℕ → ℕ → Reply → Type 0
IsSeatAfter n number held accepted (Done at cost) = IsSeat n number held at (accepted + 1) × (accepted + 1 ≤ at)
IsSeatAfter n number held accepted (No at why) = IsSeat n number held at accepted

-- no number is held that the seat has not read as given out
abbrev pub HoldsBelow : Token → Type 0
HoldsBelow m = (x : ℕ) → m.0.given ≤ x → times x m.0.held ≡ 0

-- it has glanced no less than it has seen
abbrev pub IsAhead : Token → Type 0
IsAhead m = length m.0.seen ≤ m.0.glanced

-- Two seats were made one: it has the numbers and the entries of both, and saw the longer of the two histories
pub record IsOfBoth (m other n : Token) : Type 0 where
  pub idle : IsIdle n
  pub own : (x : ℕ) → times x n.0.held ≡ times x m.0.held + times x other.0.held
  pub single : (x : ℕ) → times x n.0.held ≤ 1
  pub count : length n.0.held ≡ length m.0.held + length other.0.held
  pub few : length n.0.held ≤ 64
  pub long : length n.0.seen ≡ max (length m.0.seen) (length other.0.seen)
  pub entries : under n.0.held n.0.seen ≡ under m.0.held m.0.seen + under other.0.held other.0.seen
  pub most : under n.0.held n.0.seen ≤ length n.0.seen
  pub below : HoldsBelow m → HoldsBelow other → HoldsBelow n
  pub ahead : IsAhead m → IsAhead other → IsAhead n

-- The board that was met under the turn, and how many numbers were given out. The seat held as many exactly if it held as
-- many as it knew of: it had then seen the whole history, and each entry is its own
pub record BroughtOut (m : Token) (board : Book) (numbers : ℕ) : Type 0 where
  pub history : List Entry
  pub met : Meets m.0 history
  pub board_is : board ≡ board_at m.0.setting history
  pub all : (length m.0.held == numbers) ≡ (length m.0.held == m.0.given)
  pub whole : length m.0.held ≡ numbers → (history ≡ m.0.seen) × (under m.0.held m.0.seen ≡ length history)
