-- What `ttp play` answers.
use Rattle.std.specs.Prelude.{◌≡◌, ◌≤◌, ◌<◌, ℕ, List, Option, None, Result, Ok, Err}
use Rattle.league.specs.League.{LeagueData}
use Rattle.choices.specs.Limits.{max_room}
use Rattle.text_lines.specs.Input.{league_text, script_lines}
use Rattle.board_texts.specs.PlayText.{IsPlayedAgain, play_text}
use Rattle.given_start.specs.declared.begun.Beginning.{Beginning}
use Rattle.commands.specs.declared.fault.ProgramFault.{ProgramFault}
use Rattle.commands.specs.declared.fault.ProgramFault.TheVariants.{Room}
use Rattle.commands.specs.Begun.{Begins, Refuses}

-- the play text of a league and its script; the history in it, given as a script, leads to the same history
pub record IsPlayText (league : LeagueData) (room : ℕ) (script : List (List ℕ)) (text : List ℕ) : Type 0 where
  pub room_is : room ≤ max_room
  pub text_is : text ≡ play_text league room script
  pub again : IsPlayedAgain league room script

-- the play text of these script lines and the league that the bytes stand for, where it is to begin, or why there is no such league,
-- or a room over that of any board
abbrev pub AnswersPlayOn : ℕ → List ℕ → List (List ℕ) → Option Beginning → Result (List ℕ) ProgramFault → Type 0
AnswersPlayOn room bytes script beginning (Ok text) =
    (league : LeagueData) × Begins bytes beginning league × IsPlayText league room script text
AnswersPlayOn room bytes script beginning (Err Room) = (league : LeagueData) × Begins bytes beginning league × (max_room < room)
AnswersPlayOn room bytes script beginning (Err fault) = Refuses bytes beginning fault

-- the same of an input's league, which begins at its own start, and script
abbrev pub AnswersPlay : ℕ → List ℕ → Result (List ℕ) ProgramFault → Type 0
AnswersPlay room input = AnswersPlayOn room (league_text input) (script_lines input) None
