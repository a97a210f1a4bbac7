-- What `ttp start` answers.
use Rattle.std.specs.Prelude.{◌≡◌, ℕ, List, Option, None, Result, Ok, Err}
use Rattle.league.specs.Starts.{start_of}
use Rattle.league.specs.League.{LeagueData}
use Rattle.text_lines.specs.Sheet.{sheet_of}
use Rattle.given_start.specs.declared.begun.Beginning.{Beginning}
use Rattle.commands.specs.declared.fault.ProgramFault.{ProgramFault}
use Rattle.commands.specs.Begun.{Begins, Refuses}

-- the sheet of a league's start
abbrev pub start_sheet : LeagueData → List ℕ
start_sheet league = sheet_of (start_of league) league

-- the start sheet of the league that the bytes stand for, where it is to begin, or why there is none
abbrev pub AnswersStartOn : List ℕ → Option Beginning → Result (List ℕ) ProgramFault → Type 0
AnswersStartOn bytes beginning (Ok text) = (league : LeagueData) × Begins bytes beginning league × (text ≡ start_sheet league)
AnswersStartOn bytes beginning (Err fault) = Refuses bytes beginning fault

-- the same of an input, whose league begins at its own start
abbrev pub AnswersStart : List ℕ → Result (List ℕ) ProgramFault → Type 0
AnswersStart input = AnswersStartOn input None
