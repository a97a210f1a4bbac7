use Rattle.std.proofs.Common.{◌≡◌, refl, sym, ◌∙◌, arith}
use Rattle.std.specs.List.{list_any}
use Rattle.league.specs.Sums.{any_below}
use Rattle.league.proofs.ForCallers.{any_below_found}
use Rattle.report_breaches.specs.Cells.{is_marked, names}
use Rattle.report_breaches.specs.within.Terms.{breaches_in_row, row_count}
use Rattle.report_breaches.proofs.Rows.{any_not_yet, any_of_below, in_rows}
use Rattle.report_breaches.proofs.marks.is_marked.Goals as goal

pub loop-row-init : goal.loop-row-init
unfolding any_below
loop-row-init c = refl

pub loop-row-preserved : goal.loop-row-preserved
loop-row-preserved c =
    any_not_yet c.loop-row.row
    (λ k. list_any (names c.args.schedule.now c.args.rule.now.body c.args.team c.args.round)
    (breaches_in_row c.args.schedule.now c.args.rule.now.body k))
    c.loop-row.invariant (sym c.is_marked_in.ensures ∙ c.if-is_marked_in.false)

pub returns-then-is_marked_in : goal.returns-then-is_marked_in
unfolding is_marked
returns-then-is_marked_in c =
    rw (in_rows c.args.schedule.now c.args.rule.now.body)
    (sym (any_of_below (names c.args.schedule.now c.args.rule.now.body c.args.team c.args.round)
    (row_count c.args.schedule.now c.args.rule.now.body) (breaches_in_row c.args.schedule.now c.args.rule.now.body) ∙
    any_below_found (row_count c.args.schedule.now c.args.rule.now.body)
    (λ k. list_any (names c.args.schedule.now c.args.rule.now.body c.args.team c.args.round)
    (breaches_in_row c.args.schedule.now c.args.rule.now.body k))
    c.loop-row.row (rw c.row_count-row-end.ensures.value at c.loop-row-test.true)
    (sym c.is_marked_in.ensures ∙ c.if-is_marked_in.true)))

pub returns : goal.returns
unfolding is_marked
returns c =
    let whole : c.loop-row.row ≡ row_count c.args.schedule.now c.args.rule.now.body =
    omega (arith, c.row_count-row-end.ensures.value) in
    rw (in_rows c.args.schedule.now c.args.rule.now.body)
    (sym (any_of_below (names c.args.schedule.now c.args.rule.now.body c.args.team c.args.round)
    (row_count c.args.schedule.now c.args.rule.now.body) (breaches_in_row c.args.schedule.now c.args.rule.now.body) ∙
    rw whole at c.loop-row.invariant))
