-- What the board has whenever the turn is free.
use Rattle.std.specs.Prelude.{◌≡◌, List, length}
use Rattle.fixtures.specs.Games.{IsDoubleRoundRobin}
use Rattle.league.specs.Starts.{start_of}
use Rattle.fixture_board.specs.declared.change.Entry.{Entry}
use Rattle.costs.specs.Costs.{cost_of}
use Rattle.fixture_board.specs.History.{IsLegal, AllStand, IsBestOf, games_of, games_after, effective, pins_of, cost_at}
use Rattle.fixture_board.specs.History.{best_of, best_prefix, as_best}
use Rattle.fixture_board.specs.Laws.{least_of}
use Rattle.shared_board.specs.Setting.{Setting}
use Rattle.shared_board.specs.Between.{Table, IsHome, front_word, best_word}

-- The board's fixtures are the start with the history's changes made singly, in order. They are a double round robin
-- in which the pinned games stand, with exact cost and best
pub record HasFixtures (s : Table) : Type 0 where
  pub setting : Setting
  pub history : List Entry
  pub home : IsHome s setting history
  pub front : front_word s ≡ length history
  pub legal : IsLegal setting.league setting.room history
  pub games : games_of setting.league history ≡ games_after (start_of setting.league) (effective history)
  pub robin : IsDoubleRoundRobin (games_of setting.league history)
  pub pinned_stand : AllStand (games_of setting.league history) (pins_of setting.league history)
  pub cost : cost_at setting.league history ≡ cost_of setting.league (games_of setting.league history)
  pub best : best_of setting.league history ≡ as_best setting.league (best_prefix setting.league history)
  pub best_is : IsBestOf setting.league history (best_prefix setting.league history)
  pub posted : best_word s ≡ least_of setting.league history
