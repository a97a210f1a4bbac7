-- The play text: what a board answers to a script, and what it is then. Teams and rounds are numbered from 0 here,
-- and from 1 in the text.
use Rattle.std.specs.Prelude.{◌≡◌, ℕ, ◌+◌, List, [], ◌∷◌, ◌++◌, length, Option, Some, None, codes}
use Rattle.std.specs.Str.Lines.{lines}
use Rattle.league.specs.League.{LeagueData}
use Rattle.moves.specs.declared.moves.Move.{Move}
use Rattle.moves.specs.declared.moves.Move.TheVariants.{Homes, Rounds, Teams, PartRounds, PartTeams}
use Rattle.fixture_board.specs.declared.change.Change.{Change}
use Rattle.fixture_board.specs.declared.change.Change.TheVariants as change
use Rattle.fixture_board.specs.declared.change.Entry.{Entry}
use Rattle.fixture_board.specs.declared.best.Best.{Best}
use Rattle.costs.specs.declared.cost.Cost.{Cost}
use Rattle.fixture_board.specs.declared.reply.Reply.{Reply}
use Rattle.fixture_board.specs.declared.reply.Reply.TheVariants.{Done, No}
use Rattle.fixture_board.specs.declared.reply.Why.{Why}
use Rattle.fixture_board.specs.declared.reply.Why.TheVariants as why
use Rattle.fixture_board.specs.History.{games_of, cost_at, best_of}
use Rattle.fixture_board.specs.Record.{Book, book}
use Rattle.fixture_board.specs.Replies.{ask_of, ask_with, greatest, next_of, reply_of}
use Rattle.board_texts.specs.Command.{line_of}
use Rattle.text_lines.specs.Lines.{counted, numbered}
use Rattle.text_lines.specs.Sheet.{sheet_of}
use Rattle.board_texts.specs.declared.script_line.ScriptLine.{ScriptLine}
use Rattle.board_texts.specs.declared.script_line.ScriptLine.TheVariants as line

-- the end of a line that tells a cost
abbrev pub costs_of : Cost → List ℕ
costs_of cost = counted (codes " travel ") cost.travel ++ counted (codes " hard ") cost.hard ++ numbered (codes " soft ") cost.soft

abbrev pub start_line : Cost → List ℕ
start_line cost = codes "start" ++ costs_of cost

abbrev pub why_text : Why → List ℕ
why_text why.Ahead = codes "ahead"
why_text why.Old = codes "old"
why_text why.Full = codes "full"
why_text why.BadMove = codes "bad move"
why_text why.Meet = codes "meet"
why_text why.Pinned = codes "pinned"
why_text why.WrongClaim = codes "wrong claim"
why_text why.Worse = codes "worse"
why_text why.BadGame = codes "bad game"
why_text why.NotThere = codes "not there"
why_text why.AlreadyPinned = codes "already pinned"
why_text why.NotPinned = codes "not pinned"
why_text why.NothingToUndo = codes "nothing to undo"

abbrev pub done_line : ℕ → Cost → List ℕ
done_line at cost = counted (codes "done ") at ++ costs_of cost

abbrev pub no_line : ℕ → Why → List ℕ
no_line at reason = counted (codes "no ") at ++ codes " " ++ why_text reason ++ codes "\n"

abbrev pub reply_line : Reply → List ℕ
reply_line (Done at cost) = done_line at cost
reply_line (No at reason) = no_line at reason

abbrev pub would_line : Cost → List ℕ
would_line cost = codes "would" ++ costs_of cost

-- what is told of a move that isn't made, by the reply that it would get
abbrev pub tried_line : Reply → List ℕ
tried_line (Done at cost) = would_line cost
tried_line (No at reason) = no_line at reason

-- a word and the numbers of teams and rounds after it
abbrev pub two_places : List ℕ → ℕ → ℕ → List ℕ
two_places word a b = counted word (a + 1) ++ numbered (codes " ") (b + 1)

abbrev pub three_places : List ℕ → ℕ → ℕ → ℕ → List ℕ
three_places word a b c = counted word (a + 1) ++ counted (codes " ") (b + 1) ++ numbered (codes " ") (c + 1)

-- a move and a change as the script lines that ask for them
abbrev pub move_line : Move → List ℕ
move_line (Homes i j) = two_places (codes "homes ") i j
move_line (Rounds k l) = two_places (codes "rounds ") k l
move_line (Teams i j) = two_places (codes "teams ") i j
move_line (PartRounds i k l) = three_places (codes "part-rounds ") i k l
move_line (PartTeams i j k) = three_places (codes "part-teams ") i j k

abbrev pub change_line : Change → List ℕ
change_line (change.Shift mv) = move_line mv
change_line (change.Pin game) = three_places (codes "pin ") game.round game.home game.away
change_line (change.Unpin game) = three_places (codes "unpin ") game.round game.home game.away
change_line change.Undo = codes "undo\n"

abbrev pub change_lines : List Entry → List ℕ
change_lines [] = []
change_lines (e ∷ es) = change_line e.change ++ change_lines es

unfoldable pub history_text : List Entry → List ℕ
history_text h = numbered (codes "history ") (length h) ++ change_lines h ++ codes "end\n"

abbrev pub best_line : Option Best → List ℕ
best_line None = codes "best none\n"
best_line (Some best) = counted (codes "best ") best.total ++ numbered (codes " at ") best.at

-- a line of a script on a board of this history, from caller 0: what is answered, and the history and the slack after it.
-- `number` counts all lines from 1
module _ (league : LeagueData) (room : ℕ) where
  abbrev pub answer_to : List Entry → ℕ → ℕ → ScriptLine → List ℕ
  answer_to h slack number line.Skip = []
  answer_to h slack number (line.Slack given) = numbered (codes "slack ") given
  answer_to h slack number (line.Asks c) = reply_line (reply_of league room h (ask_with (length h) slack c))
  answer_to h slack number (line.Tries mv) = tried_line (reply_of league room h (ask_of (length h) (change.Shift mv)))
  answer_to h slack number line.Bad = numbered (codes "bad line ") number

  abbrev pub history_after : List Entry → ℕ → ScriptLine → List Entry
  history_after h slack (line.Asks c) = next_of league room h 0 (ask_with (length h) slack c)
  history_after h slack _ = h

  abbrev pub slack_after : ℕ → ScriptLine → ℕ
  slack_after slack (line.Slack given) = given
  slack_after slack _ = slack

  -- the answers to the lines from the one of this number on
  abbrev pub answers_from : List Entry → ℕ → ℕ → List (List ℕ) → List ℕ
  answers_from h slack number [] = []
  answers_from h slack number (l ∷ ls) =
      answer_to h slack number (line_of l) ++
      answers_from (history_after h slack (line_of l)) (slack_after slack (line_of l)) (number + 1) ls

  -- the history after the lines
  abbrev pub played_from : List Entry → ℕ → List (List ℕ) → List Entry
  played_from h slack [] = h
  played_from h slack (l ∷ ls) = played_from (history_after h slack (line_of l)) (slack_after slack (line_of l)) ls

  -- the history that a script leads to
  unfoldable pub played : List (List ℕ) → List Entry
  played script = played_from [] greatest script

  -- its answers
  unfoldable pub answers : List (List ℕ) → List ℕ
  answers script = answers_from [] greatest 1 script

-- the history that a script leads to, written and given as a script itself, leads to the same history
abbrev pub IsPlayedAgain : LeagueData → ℕ → List (List ℕ) → Type 0
IsPlayedAgain league room script =
    played league room (lines (change_lines (played league room script))) ≡ played league room script

-- a board after its history: the history, the sheet of its schedule and the best version
unfoldable pub closing_text : LeagueData → List Entry → List ℕ
closing_text league h = history_text h ++ sheet_of (games_of league h) league ++ best_line (best_of league h)

-- the cost of the start, the answers to the script, and the board after it
unfoldable pub play_text : LeagueData → ℕ → List (List ℕ) → List ℕ
play_text league room script =
    start_line (cost_at league []) ++ answers league room script ++ closing_text league (played league room script)

-- a board after the first lines of a script, which may be none or all
pub record IsPlayedInPart (league : LeagueData) (room : ℕ) (script : List (List ℕ)) (board : Book) : Type 0 where
  pub done : List (List ℕ)
  pub left : List (List ℕ)
  pub parts : script ≡ done ++ left
  pub is : board ≡ book league room (played league room done)
