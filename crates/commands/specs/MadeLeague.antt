-- What `ttp league` answers.
use Rattle.std.specs.Prelude.{◌≡◌, ℕ, List, Option, unwrap_or, Result, Ok, Err}
use Rattle.choices.specs.declared.symmetry.Symmetry.{Symmetry}
use Rattle.league_csv.specs.League.{IsLeagueOf, rounded_in, table_for}
use Rattle.league_csv.specs.LeagueText.{Said}
use Rattle.league_csv.specs.Table.{TableData}
use Rattle.commands.specs.declared.fault.ProgramFault.{ProgramFault}
use Rattle.commands.specs.declared.fault.ProgramFault.TheVariants.{Distances}

-- the text of the league of a table, which is read as it, and how many of its distances were rounded, if that is told; or its first fault
abbrev pub AnswersLeague : Option Symmetry → Said → Option ℕ → List ℕ → Result (List ℕ) ProgramFault → Type 0
AnswersLeague choice said rounded bytes (Ok text) =
    (table : TableData) × (table_for choice bytes ≡ Ok table) × IsLeagueOf choice said table text (unwrap_or rounded (rounded_in table.rows))
AnswersLeague choice said rounded bytes (Err (Distances fault)) = table_for choice bytes ≡ Err fault
AnswersLeague choice said rounded bytes (Err fault) = ⊥
