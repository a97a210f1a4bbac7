-- Lines without faults, and the double round robin that they give.
use Rattle.std.specs.Prelude.{◌≡◌, ℕ, ◌==◌, ◌↔◌, List, [], length, Option, Some, None, if◌then◌else◌, slice_index_or}
use Rattle.std.specs.List.{position_or_len}
use Rattle.fixtures.specs.declared.game.Game.{Game}
use Rattle.fixtures.specs.Games.{Games, games}
use Rattle.schedule_texts.specs.Faults.{faults, is_of_pair}
use Rattle.schedule_texts.specs.Given.{given_games, IsGivenBy, IsVerdict}

-- the lines have no fault exactly if they give a double round robin of n teams
abbrev pub IsFaultlessExactly : ℕ → List (List ℕ) → Type 0
IsFaultlessExactly n lines = (faults n lines ≡ []) ↔ ((g : Games) × IsGivenBy n lines g)

-- the round of the first game in the list that the pair has
abbrev pub round_in : ℕ → List Game → ℕ → ℕ → ℕ
round_in n list home away =
    (slice_index_or list (position_or_len (is_of_pair n home away) list) (record { round = 0; home = 0; away = 0 })).round

-- the double round robin of n teams that lines without a fault give
unfoldable pub schedule_of : ℕ → List (List ℕ) → Option Games
schedule_of n lines = if length (faults n lines) == 0 then Some (games n (round_in n (given_games lines))) else None

-- whatever the lines are found to give is that
abbrev pub IsToldExactly : ℕ → List (List ℕ) → Type 0
IsToldExactly n lines = (told : Option Games) → IsVerdict n lines told → told ≡ schedule_of n lines
