-- The double round robin that a text gives.
use Rattle.std.specs.Prelude.{◌≡◌, ℕ, false, List, map, Option, Some, None}
use Rattle.fixtures.specs.declared.game.Game.{Game}
use Rattle.fixtures.specs.Games.{Games}
use Rattle.fixtures.specs.GameList.{AreGamesOf}
use Rattle.text_lines.specs.Number.{numbered_game}
use Rattle.schedule_texts.specs.declared.schedule_text.WrittenGame.{WrittenGame}
use Rattle.schedule_texts.specs.LastSheet.{last_sheet}
use Rattle.schedule_texts.specs.ScheduleText.{written_games, has_bad_line}

-- the game with numbers from 0, in which 255 stands for one that no team and no round has
abbrev pub placed : WrittenGame → Game
placed w = numbered_game w.round w.home w.away

-- those of the last sheet
abbrev pub given_games : List (List ℕ) → List Game
given_games lines = map placed (written_games (last_sheet lines))

-- none of the lines of the last sheet is bad, and their games are those of this double round robin of n teams
pub record IsGivenBy (n : ℕ) (lines : List (List ℕ)) (g : Games) : Type 0 where
  pub teams : g.teams ≡ n
  pub sound : has_bad_line (last_sheet lines) ≡ false
  pub games : AreGamesOf g (given_games lines)

-- the double round robin that the lines give, or that they give none
abbrev pub IsVerdict : ℕ → List (List ℕ) → Option Games → Type 0
IsVerdict n lines (Some g) = IsGivenBy n lines g
IsVerdict n lines None = (g : Games) → ¬ IsGivenBy n lines g
