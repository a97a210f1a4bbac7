use Rattle.std.proofs.Common.{◌≡◌, true, ◌+◌, length, arith, sym}
use Rattle.std.specs.Str.Lines.{lines}
use Rattle.league.specs.Checks.{is_team_count}
use Rattle.league.specs.Views.{texts}
use Rattle.league_csv.specs.within.Views.{rows}
use Rattle.league_csv.proofs.Counts.{few_below, most_teams}
use Rattle.league_csv.proofs.table.table_below.Goals as goal

pub returns-clause-few : goal.returns-clause-few
returns-clause-few c =
    let first = c.args.first in
    let names = texts c.in_ok-names.names.items in
    let counted : is_team_count (length names) ≡ true =
    rw (sym c.deref.ensures.value, sym c.name_count.ensures) (sym c.if-not-is_team_count.ensures) in
    let most = most_teams (length names) counted in
    let few = few_below first.separator c.has_names-in_column.result names (first.line + 1) 0 (lines c.args.below.now)
    (rows c.in_ok-rows.rows.items) most (rw c.deref-2.ensures.value at c.in_ok-rows.ensures) in
    omega (arith, few, most)
