-- What a door to a board tells of it.
use Rattle.std.specs.Prelude.{◌≡◌, ◌↔◌, ℕ, List, ◌++◌, length}
use Rattle.std.proofs.Common.{sym, ap, ◌∙◌}
use Rattle.league.specs.League.{LeagueData}
use Rattle.fixtures.specs.Games.{Games}
use Rattle.fixture_board.specs.declared.ask.Ask.TheVariants.{Shift}
use Rattle.fixture_board.specs.declared.ask.Proposal.{Proposal}
use Rattle.fixture_board.specs.declared.change.Entry.{Entry}
use Rattle.fixture_board.specs.declared.look.Seen.{Seen}
use Rattle.fixture_board.specs.declared.reply.Reply.{Reply}
use Rattle.fixture_board.specs.declared.reply.Reply.TheVariants.{Done, No}
use Rattle.fixture_board.specs.History.{games_of, cost_at, IsLegal}
use Rattle.fixture_board.specs.Looks.{copied}
use Rattle.fixture_board.specs.Replies.{next_of, reply_of}
use Rattle.shared_board.specs.Seats.{SeatValue}
use Rattle.shared_board.specs.Setting.{Setting}

-- the second history begins with the first
pub record Begins (xs ys : List Entry) : Type 0 where
  pub rest : List Entry
  pub is : xs ++ rest ≡ ys

-- how many entries the answer says that it added
abbrev pub done_count : Reply → ℕ
done_count (Done at cost) = 1
done_count (No at why) = 0

-- a board that the door may have, at a legal history that begins with what was seen
pub record IsFound (may_have : LeagueData → ℕ → Type 0) (before : List Entry) (league : LeagueData) (room : ℕ)
    (history : List Entry) : Type 0 where
  pub has : may_have league room
  pub legal : IsLegal league room history
  pub begins : Begins before history

-- The answer to a proposal is that of the board that was found. What is seen after begins the history after the call.
pub record Replies (may_have : LeagueData → ℕ → Type 0) (caller : ℕ) (before : List Entry) (proposal : Proposal) (reply : Reply)
    (after : List Entry) : Type 0 where
  pub league : LeagueData
  pub room : ℕ
  pub history : List Entry
  pub found : IsFound may_have before league room history
  pub answer : reply ≡ reply_of league room history (Shift proposal)
  pub seen : Begins after (next_of league room history caller (Shift proposal))

-- A look shows the board that was found: its version, its cost and its games. What is seen after begins its history.
pub record Shows (may_have : LeagueData → ℕ → Type 0) (before : List Entry) (copy : Games) (shown : Seen) (new : Games)
    (after : List Entry) : Type 0 where
  pub league : LeagueData
  pub room : ℕ
  pub history : List Entry
  pub found : IsFound may_have before league room history
  pub version : shown.version ≡ length history
  pub cost : shown.cost ≡ cost_at league history
  pub copy_is : new ≡ copied copy (games_of league history)
  pub seen : Begins after history

-- the league and the room of the seat's board
abbrev pub is_of : SeatValue → LeagueData → ℕ → Type 0
is_of seat league room = (league ≡ seat.setting.league) × (room ≡ seat.setting.room)

-- the same seat of the same board, which may have seen more
pub record IsSameSeat (a b : SeatValue) : Type 0 where
  pub table : a.table ≡ b.table
  pub number : a.number ≡ b.number
  pub setting : a.setting ≡ b.setting
  pub held : a.held ≡ b.held

-- the same seat has the same boards
pub same_boards : (a b : SeatValue) → IsSameSeat a b → (league : LeagueData) → (room : ℕ) → is_of a league room ↔ is_of b league room
same_boards a b p league room =
    let league_is = ap (λ (s : Setting). s.league) p.setting in
    let room_is = ap (λ (s : Setting). s.room) p.setting in
    (λ h. (h.0 ∙ league_is, h.1 ∙ room_is), λ h. (h.0 ∙ sym league_is, h.1 ∙ sym room_is))
