-- What a caller sees of a seat, and what each call does to it.
use Rattle.std.specs.Prelude.{Bool, Option, None, ◌==◌, Some, ◌⊎◌, ◌+◌, min, max, ◌≡◌, ℕ, ◌<◌, ◌≤◌, List}
use Rattle.std.specs.Prelude.{[], ◌∷◌, ◌++◌, length, true}
use Rattle.atomic_table.specs.Seated.{TableId}
use Rattle.fixtures.specs.Games.{Games}
use Rattle.fixture_board.specs.declared.ask.Ask.{Ask}
use Rattle.fixture_board.specs.declared.change.Entry.{Entry}
use Rattle.fixture_board.specs.declared.look.Seen.{Seen}
use Rattle.fixture_board.specs.declared.reply.Reply.{Reply}
use Rattle.fixture_board.specs.History.{games_of, cost_at}
use Rattle.fixture_board.specs.Laws.{least_of}
use Rattle.fixture_board.specs.Looks.{copied}
use Rattle.fixture_board.specs.Replies.{next_of, reply_of}
use Rattle.shared_board.specs.declared.view.View.{View}
use Rattle.shared_board.specs.declared.shared.Closed.{Closed}
use Rattle.shared_board.specs.Setting.{Setting, board_at}
use Rattle.shared_board.specs.Held.{times, under}
use Rattle.shared_board.specs.Rule.{Knows}
use Rattle.shared_board.specs.Plays.{IsMet}

-- which board it is
abbrev pub BoardId : Type 0
BoardId = TableId

pub record SeatValue : Type 0 where
  pub table : BoardId
  pub number : ℕ
  pub setting : Setting
  pub held : List ℕ
  pub seen : List Entry
  pub glanced : ℕ
  pub lowest : ℕ
  pub given : ℕ

abbrev pub seat_value : BoardId → ℕ → View → SeatValue
seat_value table number v = record {
  table = table;
  number = number;
  setting = v.setting;
  held = v.held;
  seen = v.seen;
  glanced = v.glanced;
  lowest = v.lowest;
  given = v.given;
}

-- What holds of every seat: it holds its own number, none twice, and none that it doesn't know to be given out, and it
-- has glanced no less than it has seen
pub record IsConsistent (a : SeatValue) : Type 0 where
  pub own : times a.number a.held ≡ 1
  pub single : (x : ℕ) → times x a.held ≤ 1
  pub below : (x : ℕ) → a.given ≤ x → times x a.held ≡ 0
  pub ahead : length a.seen ≤ a.glanced

-- the seat, once it has seen this history
abbrev pub now_seen : SeatValue → List Entry → SeatValue
now_seen a h = record a { seen = h; glanced = length h; lowest = least_of a.setting.league h }

-- the seat met the history under the turn
abbrev pub Met : SeatValue → List Entry → Type 0
Met a history = IsMet a.setting a.held a.seen a.glanced a.lowest history

-- the reply is that of one thread's board at a history that was met, and the seat has seen the history after the call
pub record Answered (a b : SeatValue) (ask : Ask) (reply : Reply) : Type 0 where
  pub seat : IsConsistent a
  pub history : List Entry
  pub met : Met a history
  pub replied : reply ≡ reply_of a.setting.league a.setting.room history ask
  pub now : b ≡ now_seen a (next_of a.setting.league a.setting.room history a.number ask)

-- the first seat of a board
abbrev pub first_seat : BoardId → Setting → SeatValue
first_seat table setting = record {
  table = table;
  number = 0;
  setting = setting;
  held = 0 ∷ [];
  seen = [];
  glanced = 0;
  lowest = least_of setting.league [];
  given = 1;
}

pub record Looked (a b : SeatValue) (old new : Games) (seen : Seen) : Type 0 where
  pub history : List Entry
  pub met : Met a history
  pub copy : new ≡ copied old (games_of a.setting.league history)
  pub version : seen.version ≡ length history
  pub cost : seen.cost ≡ cost_at a.setting.league history
  pub now : b ≡ now_seen a history

abbrev pub glanced_at : SeatValue → ℕ → SeatValue
glanced_at a n = record a { glanced = n }

abbrev pub lowest_at : SeatValue → ℕ → SeatValue
lowest_at a n = record a { lowest = n }

-- none is above every total
abbrev pub word_of_total : Option ℕ → ℕ
word_of_total None = 18446744073709551615
word_of_total (Some n) = n

abbrev pub given_at : SeatValue → ℕ → SeatValue
given_at a n = record a { given = n }

-- a new seat, that has seen what the old one has, under a number that the old one has not and no entry that was seen
-- is under
pub record IsNew (a b : SeatValue) : Type 0 where
  pub now : b ≡ record a { number = b.number; held = b.number ∷ []; given = b.number + 1 }
  pub few : b.number < 64
  pub later : a.given ≤ b.number
  pub own : times b.number a.held ≡ 0
  pub no_entry : under (b.number ∷ []) a.seen ≡ 0

-- Of the two histories one begins the other, and has after it no entry of the seat that saw less. The two share no
-- number
pub record Absorbed (a other b : SeatValue) : Type 0 where
  pub kept : ((b.seen ≡ a.seen) × Knows other.held other.seen a.seen) ⊎ ((b.seen ≡ other.seen) × Knows a.held a.seen other.seen)
  pub apart : (x : ℕ) → times x a.held + times x other.held ≤ 1
  pub now : b ≡ record a {
    held = a.held ++ other.held;
    seen = b.seen;
    glanced = max a.glanced other.glanced;
    lowest = min a.lowest other.lowest;
    given = max a.given other.given;
  }

-- The seat holds as many numbers as it knows to be given out. It then knows of all that are
abbrev pub holds_all : SeatValue → Bool
holds_all a = length a.held == a.given

-- The board has a history that stands to the seat as one that was met under the turn. It is whole exactly if the seat
-- holds each number that was given out: the seat had then seen all of it, and each entry is the seat's
pub record ClosedBy (a : SeatValue) (c : Closed) : Type 0 where
  pub history : List Entry
  pub met : Met a history
  pub board : c.board ≡ board_at a.setting history
  pub whole_is : c.whole ≡ holds_all a
  pub whole : c.whole ≡ true → (history ≡ a.seen) × (under a.held a.seen ≡ length history)
