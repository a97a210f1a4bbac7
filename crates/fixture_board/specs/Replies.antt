-- What a board answers, and what its history is then.
use Rattle.std.specs.Prelude.{ℕ, ◌+◌, ◌-◌, ◌^◌, Bool, true, false, not, ◌&&◌, ◌==◌, nat_lt, if◌then◌else◌, List, []}
use Rattle.std.specs.Prelude.{◌∷◌, ◌++◌, length, Option, Some, None, Result, Err}
use Rattle.fixtures.specs.declared.game.Game.{Game}
use Rattle.fixtures.specs.Draft.{is_game_in_range}
use Rattle.fixtures.specs.Games.{Games}
use Rattle.moves.specs.declared.fault.MoveFault.{MoveFault}
use Rattle.moves.specs.declared.fault.MoveFault.TheVariants.{BadMove, Meet}
use Rattle.moves.specs.declared.moves.Move.{Move}
use Rattle.moves.specs.Moves.{moved, fault_of}
use Rattle.league.specs.League.{LeagueData}
use Rattle.costs.specs.Costs.{cost_of, score_of}
use Rattle.fixture_board.specs.declared.change.Change.{Change}
use Rattle.fixture_board.specs.declared.change.Change.TheVariants.{Shift, Pin, Unpin, Undo}
use Rattle.fixture_board.specs.declared.change.Entry.{Entry}
use Rattle.fixture_board.specs.declared.ask.Ask.{Ask}
use Rattle.fixture_board.specs.declared.ask.Ask.TheVariants as ask
use Rattle.fixture_board.specs.declared.ask.Proposal.{Proposal}
use Rattle.fixture_board.specs.declared.reply.Why.{Why}
use Rattle.fixture_board.specs.declared.reply.Why.TheVariants as why
use Rattle.fixture_board.specs.declared.reply.Reply.{Reply}
use Rattle.fixture_board.specs.declared.reply.Reply.TheVariants.{Done, No}
use Rattle.fixture_board.specs.History.{effective, games_of, pins_of, has_game, is_there, moves_pin}
use Rattle.fixture_board.specs.History.{cost_at}

-- the change that is asked for
abbrev pub change_of : Ask → Change
change_of (ask.Shift p) = Shift p.mv
change_of (ask.Pin version game) = Pin game
change_of (ask.Unpin version game) = Unpin game
change_of (ask.Undo version) = Undo

-- whether the move is refused for this
abbrev pub is_bad : Result (Unit {0}) MoveFault → Bool
is_bad (Err BadMove) = true
is_bad _ = false

abbrev pub is_meeting : Result (Unit {0}) MoveFault → Bool
is_meeting (Err Meet) = true
is_meeting _ = false

-- whether a claim is given that isn't the score
abbrev pub is_wrong : Option ℕ → ℕ → Bool
is_wrong None score = false
is_wrong (Some claim) score = not (claim == score)

-- the reason of the first row whose test is true
abbrev pub first_of : List (Bool × Why) → Option Why
first_of [] = None
first_of (row ∷ rows) = if row.0 then Some row.1 else first_of rows

-- of what may only be asked for at the board's version `at`
abbrev pub version_rows : ℕ → ℕ → ℕ → List (Bool × Why)
version_rows at room version =
    (nat_lt at version, why.Ahead) ∷ (nat_lt version at, why.Old) ∷ (at == room, why.Full) ∷ []

-- of a pin and an unpin, whatever is pinned
abbrev pub game_rows : ℕ → ℕ → ℕ → Games → Game → List (Bool × Why)
game_rows at room version g game =
    version_rows at room version ++ (not (is_game_in_range g.teams game), why.BadGame) ∷ (not (is_there g game), why.NotThere) ∷ []

-- of a move, before it is tried
abbrev pub move_rows : ℕ → ℕ → ℕ → Games → Move → List (Bool × Why)
move_rows at room version g mv =
    (nat_lt at version, why.Ahead) ∷
    (at == room, why.Full) ∷
    (is_bad (fault_of g mv), why.BadMove) ∷
    (is_meeting (fault_of g mv), why.Meet) ∷ []

-- of a proposal, by the scores before its move and after
abbrev pub score_rows : ℕ → Proposal → ℕ → ℕ → List (Bool × Why)
score_rows at p before after =
    (at == p.version && is_wrong p.claim after, why.WrongClaim) ∷ (nat_lt (before + p.slack) after, why.Worse) ∷ []

-- why a board with this schedule and these pins refuses, the first reason that applies. `at` is the version, and
-- `count` the number of changes in effect
abbrev pub refusal_at : LeagueData → ℕ → ℕ → ℕ → Games → List Game → Ask → Option Why
refusal_at league room at count g pins (ask.Shift p) =
    first_of (
    move_rows at room p.version g p.mv ++
    (moves_pin (moved g p.mv) pins, why.Pinned) ∷
    score_rows at p (score_of league (cost_of league g)) (score_of league (cost_of league (moved g p.mv))))
refusal_at league room at count g pins (ask.Pin version game) =
    first_of (game_rows at room version g game ++ (has_game pins game, why.AlreadyPinned) ∷ [])
refusal_at league room at count g pins (ask.Unpin version game) =
    first_of (game_rows at room version g game ++ (not (has_game pins game), why.NotPinned) ∷ [])
refusal_at league room at count g pins (ask.Undo version) =
    first_of (version_rows at room version ++ (count == 0, why.NothingToUndo) ∷ [])

unfoldable pub refusal : LeagueData → ℕ → List Entry → Ask → Option Why
refusal league room h ask = refusal_at league room (length h) (length (effective h)) (games_of league h) (pins_of league h) ask

abbrev pub entry : ℕ → Ask → Entry
entry caller ask = record { caller = caller; change = change_of ask }

abbrev pub next_if : Option Why → List Entry → Entry → List Entry
next_if None h e = h ++ e ∷ []
next_if (Some reason) h e = h

abbrev pub reply_if : LeagueData → Option Why → List Entry → Entry → Reply
reply_if league None h e = Done (length h + 1) (cost_at league (h ++ e ∷ []))
reply_if league (Some reason) h e = No (length h) reason

-- the history after a call
unfoldable pub next_of : LeagueData → ℕ → List Entry → ℕ → Ask → List Entry
next_of league room h caller ask = next_if (refusal league room h ask) h (entry caller ask)

-- the answer to a call. It does not read the caller's number
unfoldable pub reply_of : LeagueData → ℕ → List Entry → Ask → Reply
reply_of league room h ask = reply_if league (refusal league room h ask) h (entry 0 ask)

-- the greatest number of 64 bits
abbrev pub greatest : ℕ
greatest = 2 ^ 64 - 1

-- a change as a call at the version; a move has no claim and this slack
abbrev pub ask_with : ℕ → ℕ → Change → Ask
ask_with version slack (Shift mv) = ask.Shift (record { version = version; mv = mv; claim = None; slack = slack })
ask_with version slack (Pin game) = ask.Pin version game
ask_with version slack (Unpin game) = ask.Unpin version game
ask_with version slack Undo = ask.Undo version

-- a line of a script as a call at the version, with the greatest slack
abbrev pub ask_of : ℕ → Change → Ask
ask_of version line = ask_with version greatest line

-- the history that a script leads to, and its answers
abbrev pub played_from : LeagueData → ℕ → List Entry → List Change → List Entry
played_from league room h [] = h
played_from league room h (line ∷ lines) =
    played_from league room (next_of league room h 0 (ask_of (length h) line)) lines

abbrev pub answers_from : LeagueData → ℕ → List Entry → List Change → List Reply
answers_from league room h [] = []
answers_from league room h (line ∷ lines) =
    reply_of league room h (ask_of (length h) line) ∷
    answers_from league room (next_of league room h 0 (ask_of (length h) line)) lines
