-- What becomes of a move that is tried, and what the history is then.
use Rattle.std.specs.Prelude.{◌≡◌, ℕ, ◌+◌, Bool, not, ◌&&◌, nat_lt, nat_le, is_ok, if◌then◌else◌, List, [], ◌∷◌, ◌++◌, length}
use Rattle.std.specs.Prelude.{Option, Some, None}
use Rattle.fixtures.specs.declared.game.Game.{Game}
use Rattle.fixtures.specs.Games.{Games}
use Rattle.moves.specs.Moves.{moved, fault_of}
use Rattle.league.specs.League.{LeagueData}
use Rattle.costs.specs.Costs.{cost_of, score_by}
use Rattle.fixture_board.specs.declared.change.Change.TheVariants.{Shift}
use Rattle.fixture_board.specs.declared.change.Entry.{Entry}
use Rattle.costs.specs.declared.cost.Cost.{Cost}
use Rattle.fixture_board.specs.declared.trial.Trial.{Trial}
use Rattle.fixture_board.specs.History.{games_of, pins_of, moves_pin, cost_at}

-- whether the move is made at the version `at` of a board with this schedule and these pins: if there is room, nothing speaks against the
-- move, no pinned game gets another round, and the score by the trial's weights rises by no more than it lets it
abbrev pub passes_at : LeagueData → ℕ → ℕ → Games → List Game → Trial → Bool
passes_at league room at g pins trial =
    nat_lt at room && is_ok (fault_of g trial.mv) && not (moves_pin (moved g trial.mv) pins) &&
    nat_le (score_by trial.weights (cost_of league (moved g trial.mv))) (score_by trial.weights (cost_of league g) + trial.rise)

-- the same after a history
unfoldable pub passes : LeagueData → ℕ → List Entry → Trial → Bool
passes league room h trial = passes_at league room (length h) (games_of league h) (pins_of league h) trial

abbrev pub trial_entry : ℕ → Trial → Entry
trial_entry caller trial = record { caller = caller; change = Shift trial.mv }

-- the history after a trial of a caller
unfoldable pub trial_history : LeagueData → ℕ → List Entry → ℕ → Trial → List Entry
trial_history league room h caller trial = if passes league room h trial then h ++ trial_entry caller trial ∷ [] else h

-- the cost after it, if the move is made. It does not read the caller's number
unfoldable pub trial_cost : LeagueData → ℕ → List Entry → Trial → Option Cost
trial_cost league room h trial =
    if passes league room h trial then Some (cost_at league (h ++ trial_entry 0 trial ∷ [])) else None

-- what a trial's answer tells of the history after it: of a move that was made, that the entry was added, with the cost after it; else that
-- it is as before
abbrev pub TellsOfTrial : LeagueData → List Entry → Entry → List Entry → Option Cost → Type 0
TellsOfTrial league h e next (Some cost) = (next ≡ h ++ e ∷ []) × (cost ≡ cost_at league next)
TellsOfTrial league h e next None = next ≡ h
