-- The table of pins, made anew from the changes in effect.
use Rattle.std.specs.Prelude.{◌≡◌, ℕ, ◌<◌, List, [], ◌∷◌, slice_set}
use Rattle.league.specs.League.{LeagueData}
use Rattle.league.specs.Limits.{max_teams}
use Rattle.fixture_board.specs.declared.change.Change.{Change}
use Rattle.fixture_board.specs.declared.change.Change.TheVariants.{Pin, Unpin}
use Rattle.fixture_board.specs.within.PinTable.{pin_index, free, IsFirstTable}

-- the table has an entry for the game that the change pins or unpins
abbrev pub HasPlace : Change → Type 0
HasPlace (Pin game) = (game.home < max_teams) × (game.away < max_teams)
HasPlace (Unpin game) = (game.home < max_teams) × (game.away < max_teams)
HasPlace _ = Unit {0}

-- the table after one more change in effect
abbrev pub written : List ℕ → Change → List ℕ
written table (Pin game) = slice_set table (pin_index game.home game.away) game.round
written table (Unpin game) = slice_set table (pin_index game.home game.away) free
written table _ = table

abbrev pub written_after : List ℕ → List Change → List ℕ
written_after table [] = table
written_after table (change ∷ changes) = written_after (written table change) changes

-- the table is that of a new board after these changes in effect
pub record IsRetraced (league : LeagueData) (changes : List Change) (table : List ℕ) : Type 0 where
  pub first : List ℕ
  pub first_is : IsFirstTable league first
  pub after : table ≡ written_after first changes
