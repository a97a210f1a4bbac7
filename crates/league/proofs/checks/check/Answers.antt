use Rattle.std.proofs.lemmas.Grind.{common_steps}
use Rattle.league.specs.Checks.{checked}
use Rattle.std.proofs.Common.{sym, arith, rules}
use Rattle.league.proofs.Tables.{IsDistanceTable-from_tests}
use Rattle.league.proofs.checks.check.Goals as goal

pub returns-clause-table : goal.returns-clause-table
returns-clause-table c =
    IsDistanceTable-from_tests _ _ (sym c.if-not-is_team_count.ensures) (sym c.if-not-is_square.ensures) (sym c.if-not-are_in_range.ensures)
    (sym c.if-not-has_zero_diagonal.ensures) (sym c.if-not-is_symmetric.ensures)

pub returns-clause-value : goal.returns-clause-value
unfolding checked
returns-clause-value c = grind (arith, common_steps)

pub returns-clause-count : goal.returns-clause-count
returns-clause-count c = search rules
