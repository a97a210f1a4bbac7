use Rattle.std.proofs.Common.{◌≡◌, refl, sym, ◌∙◌, arith}
use Rattle.std.specs.List.{list_any}
use Rattle.league.specs.Sums.{any_below}
use Rattle.league.proofs.ForCallers.{any_below_found}
use Rattle.report_breaches.specs.Cells.{names}
use Rattle.report_breaches.specs.within.Terms.{breach_in, column_count}
use Rattle.report_breaches.proofs.Rows.{any_not_yet, any_of_below}
use Rattle.report_breaches.proofs.marks.is_marked_in.Goals as goal

pub loop-column-init : goal.loop-column-init
unfolding any_below
loop-column-init c = refl

pub loop-column-preserved : goal.loop-column-preserved
loop-column-preserved c =
    any_not_yet c.loop-column.column
    (λ k. list_any (names c.args.schedule.now c.args.body.now c.args.team c.args.round)
    (breach_in c.args.schedule.now c.args.body.now c.args.row k))
    c.loop-column.invariant (sym c.is_marked_at.ensures ∙ c.if-is_marked_at.false)

pub returns-then-is_marked_at : goal.returns-then-is_marked_at
returns-then-is_marked_at c =
    sym (any_of_below (names c.args.schedule.now c.args.body.now c.args.team c.args.round)
    (column_count c.args.schedule.now c.args.body.now c.args.row) (breach_in c.args.schedule.now c.args.body.now c.args.row) ∙
    any_below_found (column_count c.args.schedule.now c.args.body.now c.args.row)
    (λ k. list_any (names c.args.schedule.now c.args.body.now c.args.team c.args.round)
    (breach_in c.args.schedule.now c.args.body.now c.args.row k))
    c.loop-column.column (rw c.column_count-column-end.ensures at c.loop-column-test.true)
    (sym c.is_marked_at.ensures ∙ c.if-is_marked_at.true))

pub returns : goal.returns
returns c =
    let whole : c.loop-column.column ≡ column_count c.args.schedule.now c.args.body.now c.args.row =
    omega (arith, c.column_count-column-end.ensures) in
    sym (any_of_below (names c.args.schedule.now c.args.body.now c.args.team c.args.round)
    (column_count c.args.schedule.now c.args.body.now c.args.row) (breach_in c.args.schedule.now c.args.body.now c.args.row) ∙
    rw whole at c.loop-column.invariant)
