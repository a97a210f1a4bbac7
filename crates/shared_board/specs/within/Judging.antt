-- What the board says of a call.
use Rattle.std.specs.Prelude.{◌≡◌, ℕ, List, length}
use Rattle.fixture_board.specs.declared.ask.Ask.{Ask}
use Rattle.fixture_board.specs.declared.change.Entry.{Entry}
use Rattle.fixture_board.specs.Laws.{least_of}
use Rattle.fixture_board.specs.Replies.{next_of, reply_of}
use Rattle.shared_board.specs.declared.shared.JudgedAsk.{JudgedAsk}
use Rattle.shared_board.specs.Setting.{Setting}

-- the reply to the call, and the version and the best total after it
pub record IsJudged (s : Setting) (h : List Entry) (number : ℕ) (ask : Ask) (j : JudgedAsk) : Type 0 where
  pub reply : j.reply ≡ reply_of s.league s.room h ask
  pub version : j.version ≡ length (next_of s.league s.room h number ask)
  pub least : j.least ≡ least_of s.league (next_of s.league s.room h number ask)
