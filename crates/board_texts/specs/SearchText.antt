-- The parts of a search text. Workers are numbered from 1.
use Rattle.std.specs.Prelude.{◌≡◌, ℕ, Bool, true, false, List, [], ◌++◌, Option, Some, None, if◌then◌else◌, codes}
use Rattle.std.specs.Str.Lines.{lines}
use Rattle.league.specs.League.{LeagueData}
use Rattle.league.specs.Starts.{is_given}
use Rattle.fixtures.specs.Games.{Games}
use Rattle.tours.specs.Moved.{moved_games}
use Rattle.fixture_board.specs.declared.best.Best.{Best}
use Rattle.fixture_board.specs.declared.change.Entry.{Entry}
use Rattle.fixture_board.specs.History.{best_of, best_prefix, games_of}
use Rattle.fixture_board.specs.Replay.{under_caller_0}
use Rattle.board_texts.specs.LeastHard.{least_hard_line}
use Rattle.board_texts.specs.PlayText.{best_line, change_lines, history_text, played}
use Rattle.text_lines.specs.Lines.{counted, numbered}
use Rattle.text_lines.specs.Sheet.{sheet_of}

-- what was asked for
abbrev pub plan_line : ℕ → ℕ → ℕ → List ℕ
plan_line workers steps seed = counted (codes "workers ") workers ++ counted (codes " steps ") steps ++ numbered (codes " seed ") seed

-- how many proposals a worker made, and how many of them were accepted and refused
abbrev pub worker_line : ℕ → ℕ → ℕ → ℕ → List ℕ
worker_line number made accepted refused =
    counted (codes "worker ") number ++ counted (codes " made ") made ++ counted (codes " accepted ") accepted ++
    numbered (codes " refused ") refused

-- the games after the best prefix of a history, or after all of it if no prefix is feasible
abbrev pub games_at_best : LeagueData → List Entry → Option (List Entry) → Games
games_at_best league h None = games_of league h
games_at_best league h (Some prefix) = games_of league prefix

-- the sheet of the best schedule, or of the present one if there is no best
unfoldable pub best_sheet : LeagueData → List Entry → List ℕ
best_sheet league h = sheet_of (games_at_best league h (best_prefix league h)) league

-- how many games of the schedule have another round than at the start, if that is a schedule of its own
abbrev pub moved_line : LeagueData → Games → List ℕ
moved_line league g = if is_given league.origin.start then numbered (codes "moved ") (moved_games league g) else []

-- the same of the schedule on the best sheet
unfoldable pub moved_at_best : LeagueData → List Entry → List ℕ
moved_at_best league h = moved_line league (games_at_best league h (best_prefix league h))

-- a board after its history: the history, the sheet of its best schedule and what was moved in it
abbrev pub board_text : LeagueData → List Entry → List ℕ
board_text league h = history_text h ++ best_sheet league h ++ moved_at_best league h

-- and behind them the best version
unfoldable pub found_text : LeagueData → List Entry → List ℕ
found_text league h = board_text league h ++ best_line (best_of league h)

-- what is broken in the games after all of a history, if no prefix is feasible
abbrev pub least_hard_after : LeagueData → List Entry → Option (List Entry) → List ℕ
least_hard_after league h None = least_hard_line league (games_of league h)
least_hard_after league h (Some prefix) = []

-- the same of a history: nothing if it has a best version
unfoldable pub least_hard_text : LeagueData → List Entry → List ℕ
least_hard_text league h = least_hard_after league h (best_prefix league h)

-- the best total, without its version
abbrev pub total_line : Option Best → List ℕ
total_line None = codes "best none\n"
total_line (Some best) = numbered (codes "best ") best.total

-- the sheet of the best schedule, what was moved in it and, if none was feasible, what is broken
abbrev pub outcome_text : LeagueData → List Entry → List ℕ
outcome_text league h = best_sheet league h ++ moved_at_best league h ++ least_hard_text league h

-- what an improvement ends with, with the history that leads there and the version of it, or without both
unfoldable pub improved_text : Bool → LeagueData → List Entry → List ℕ
improved_text true league h = history_text h ++ outcome_text league h ++ best_line (best_of league h)
improved_text false league h = outcome_text league h ++ total_line (best_of league h)

-- a history, written and given as a script, leads to the same changes of caller 0, to the same games and the same best
pub record PlaysBack (league : LeagueData) (room : ℕ) (h : List Entry) : Type 0 where
  pub history : played league room (lines (change_lines h)) ≡ under_caller_0 h
  pub games : games_of league (played league room (lines (change_lines h))) ≡ games_of league h
  pub best : best_of league (played league room (lines (change_lines h))) ≡ best_of league h
