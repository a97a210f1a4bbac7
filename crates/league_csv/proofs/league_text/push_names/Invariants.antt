use Rattle.std.proofs.Common.{◌≡◌, ◌++◌, length, false}
use Rattle.league.specs.Views.{texts}
use Rattle.league_csv.specs.LeagueText.{names_text}
use Rattle.league_csv.proofs.league_text.push_names.Given as goal

abbrev pub invariant-loop-rest : goal.invariant-loop-rest
invariant-loop-rest l = l.initial.text.items ++ names_text false (texts l.names) ≡ l.text.items ++ names_text l.later (texts l.rest)

abbrev pub decreases-loop-rest : goal.decreases-loop-rest
decreases-loop-rest l = length l.rest
