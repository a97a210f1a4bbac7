use Rattle.std.proofs.Common.{◌≡◌, ◌++◌, length, false}
use Rattle.league_csv.specs.within.Views.{number_rows}
use Rattle.league_csv.specs.LeagueText.{rows_text}
use Rattle.league_csv.proofs.league_text.push_rows.Given as goal

abbrev pub invariant-loop-rest : goal.invariant-loop-rest
invariant-loop-rest l = l.initial.text.items ++ rows_text false (number_rows l.rows) ≡ l.text.items ++ rows_text l.later (number_rows l.rest)

abbrev pub decreases-loop-rest : goal.decreases-loop-rest
decreases-loop-rest l = length l.rest
