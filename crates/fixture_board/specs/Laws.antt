-- What holds of every history: what a board of many callers stands on.
use Rattle.std.specs.Prelude.{◌≡◌, ℕ, List, [], ◌∷◌, ◌++◌, length, Option, Some, None}
use Rattle.fixtures.specs.Games.{IsDoubleRoundRobin}
use Rattle.league.specs.League.{LeagueData}
use Rattle.fixture_board.specs.declared.best.Best.{Best}
use Rattle.fixture_board.specs.declared.change.Entry.{Entry}
use Rattle.fixture_board.specs.declared.reply.Reply.{Reply}
use Rattle.fixture_board.specs.declared.reply.Reply.TheVariants.{Done, No}
use Rattle.fixture_board.specs.Replies.{greatest}
use Rattle.fixture_board.specs.History.{games_of, pins_of, AllStand, cost_at, best_of}

-- the total of the best version as one number: the greatest of 64 bits if there is none
abbrev pub as_number : Option Best → ℕ
as_number None = greatest
as_number (Some best) = best.total

unfoldable pub least_of : LeagueData → List Entry → ℕ
least_of league h = as_number (best_of league h)

-- what the answer to a call tells: of a granted one, that the entry was added, with the version and the cost after
-- it; of a refused one, that the history and so the version are as before
abbrev pub TellsOf : LeagueData → List Entry → Entry → List Entry → Reply → Type 0
TellsOf league h e next (Done at cost) = (next ≡ h ++ e ∷ []) × (at ≡ length next) × (cost ≡ cost_at league next)
TellsOf league h e next (No at reason) = (next ≡ h) × (at ≡ length next)

-- the schedule of a history is a double round robin, and has the pinned games
pub record IsSound (league : LeagueData) (h : List Entry) : Type 0 where
  pub robin : IsDoubleRoundRobin (games_of league h)
  pub stand : AllStand (games_of league h) (pins_of league h)
