-- A history given as a script.
use Rattle.std.specs.Prelude.{◌≡◌, ℕ, List, [], ◌∷◌}
use Rattle.league.specs.League.{LeagueData}
use Rattle.fixture_board.specs.declared.change.Change.{Change}
use Rattle.fixture_board.specs.declared.change.Entry.{Entry}
use Rattle.fixture_board.specs.declared.reply.Reply.{Reply}
use Rattle.fixture_board.specs.declared.reply.Reply.TheVariants.{Done, No}
use Rattle.fixture_board.specs.History.{games_of, pins_of, best_of}
use Rattle.fixture_board.specs.Replies.{played_from, answers_from}

-- the changes of a history, as lines of a script
abbrev pub changes_of : List Entry → List Change
changes_of [] = []
changes_of (e ∷ es) = e.change ∷ changes_of es

-- the same changes under caller 0
abbrev pub under_caller_0 : List Entry → List Entry
under_caller_0 [] = []
under_caller_0 (e ∷ es) = record { caller = 0; change = e.change } ∷ under_caller_0 es

abbrev pub AllDone : List Reply → Type 0
AllDone [] = Unit {0}
AllDone (Done at cost ∷ rest) = AllDone rest
AllDone (No at reason ∷ rest) = ⊥

-- a legal history, given as a script, is accepted line by line and leads to the same changes, games, pins and best
pub record IsReplayed (league : LeagueData) (room : ℕ) (h : List Entry) : Type 0 where
  pub history : played_from league room [] (changes_of h) ≡ under_caller_0 h
  pub accepted : AllDone (answers_from league room [] (changes_of h))
  pub games : games_of league (under_caller_0 h) ≡ games_of league h
  pub pins : pins_of league (under_caller_0 h) ≡ pins_of league h
  pub best : best_of league (under_caller_0 h) ≡ best_of league h
