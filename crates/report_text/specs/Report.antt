-- The report of what a text gives for a league.
use Rattle.std.specs.Prelude.{ℕ, ◌==◌, Bool, false, List, ◌++◌, Option, Some, None}
use Rattle.league.specs.League.{LeagueData, teams}
use Rattle.fixtures.specs.Games.{Games}
use Rattle.costs.specs.Costs.{cost_of}
use Rattle.text_lines.specs.Sheet.{sheet_of}
use Rattle.schedule_texts.specs.Faults.{faults_text}
use Rattle.report_text.specs.CostText.{cost_text}

-- the sheet and the costs of the double round robin that the lines give, or else their faults
abbrev pub report_text : LeagueData → List (List ℕ) → Option Games → List ℕ
report_text l lines (Some g) = sheet_of g l ++ cost_text l g
report_text l lines None = faults_text (teams l) lines

-- whether there is a double round robin that breaks no hard limit
abbrev pub is_feasible : LeagueData → Option Games → Bool
is_feasible l (Some g) = (cost_of l g).hard == 0
is_feasible l None = false
