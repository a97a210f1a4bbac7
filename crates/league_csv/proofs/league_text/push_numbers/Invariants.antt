use Rattle.std.proofs.Common.{◌≡◌, ◌++◌, length, false}
use Rattle.league_csv.specs.LeagueText.{numbers_text}
use Rattle.league_csv.proofs.league_text.push_numbers.Given as goal

abbrev pub invariant-loop-rest : goal.invariant-loop-rest
invariant-loop-rest l = l.initial.text.items ++ numbers_text false l.numbers ≡ l.text.items ++ numbers_text l.later l.rest

abbrev pub decreases-loop-rest : goal.decreases-loop-rest
decreases-loop-rest l = length l.rest
