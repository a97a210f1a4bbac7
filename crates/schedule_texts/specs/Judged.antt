-- What is known of lines once they were judged.
use Rattle.std.specs.Prelude.{◌≡◌, ℕ, List}
use Rattle.schedule_texts.specs.declared.judged.Judged.{Judged}
use Rattle.schedule_texts.specs.Given.{given_games, IsVerdict}
use Rattle.schedule_texts.specs.LastSheet.{last_sheet}
use Rattle.schedule_texts.specs.ScheduleText.{written_games}

-- the games of the last sheet, and the double round robin of n teams that they give
pub record IsJudgedBy (n : ℕ) (lines : List (List ℕ)) (j : Judged) : Type 0 where
  pub written : j.written.items ≡ written_games (last_sheet lines)
  pub games : j.games.items ≡ given_games lines
  pub verdict : IsVerdict n lines j.schedule
