-- What `ttp bound` answers.
use Rattle.std.specs.Prelude.{◌≡◌, ℕ, List, None, Result, Ok, Err}
use Rattle.league.specs.League.{LeagueData}
use Rattle.bounds.specs.Bounds.{AreTourBounds, IsBound}
use Rattle.report_bounds.specs.BoundsText.{bounds_text}
use Rattle.commands.specs.declared.fault.ProgramFault.{ProgramFault}
use Rattle.commands.specs.Begun.{Begins, Refuses}

-- a line for each team with a bound on its tour, and one with a bound on the travel of all
pub record IsBoundsText (league : LeagueData) (text : List ℕ) : Type 0 where
  pub tours : List ℕ
  pub travel : ℕ
  pub each : AreTourBounds league tours
  pub all : IsBound league travel
  pub text_is : text ≡ bounds_text tours travel

-- the bounds of the league that the bytes stand for, or why there is no league
abbrev pub AnswersBound : List ℕ → Result (List ℕ) ProgramFault → Type 0
AnswersBound bytes (Ok text) = (league : LeagueData) × Begins bytes None league × IsBoundsText league text
AnswersBound bytes (Err fault) = Refuses bytes None fault
