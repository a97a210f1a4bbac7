use Rattle.std.proofs.Common.{◌≡◌, ◌==◌, ◌∙◌, ap, sym, false, length, arith, rules, tests}
use Rattle.league.specs.Views.{texts}
use Rattle.league_csv.specs.Reading.{behind}
use Rattle.league_csv.specs.Rows.{measures_from}
use Rattle.league_csv.proofs.Behind.{one_more}
use Rattle.league_csv.proofs.rows.measures_from.Goals as goal

pub loop-cell-preserved : goal.loop-cell-preserved
loop-cell-preserved c =
    let head = c.args.head in
    let names = texts head.names.now in
    let other = c.loop-cell.other in
    let differs : (other == length names) ≡ false = search (rules, tests) in
    let gives = rw (c.first_column.ensures, c.measure_between.ensures, c.in_ok-placed.was) at c.placed.ensures in
    record {
      same = rw c.in_ok-push.ensures.items (c.loop-cell.invariant.same
          ∙ ap (λ cells. behind c.loop-cell.measures.items (measures_from head.separator head.in_column names c.args.row.line c.args.row.team other cells))
          c.in-Some.ensures.some
          ∙ one_more head.separator head.in_column names c.args.row.line c.args.row.team other c.in-Some.cell.now _ c.loop-cell.measures.items
          c.in_ok-placed.field-0 differs (sym gives));
      within = omega (arith, c.loop-cell.invariant.within, rw c.teams.ensures at c.if-other-teams.false);
    }
