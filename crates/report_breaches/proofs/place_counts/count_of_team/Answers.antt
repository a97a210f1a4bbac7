use Rattle.std.proofs.Common.{arith}
use Rattle.std.proofs.lemmas.Grind.{common_steps}
use Rattle.report_breaches.specs.Cells.{names_cell}
use Rattle.report_breaches.proofs.Counting.{none_yet, one_more}
use Rattle.report_breaches.proofs.place_counts.count_of_team.Goals as goal

pub loop-round-init : goal.loop-round-init
loop-round-init c = record { from = omega arith; counted = none_yet _ _; few = omega arith }

pub loop-round-preserved : goal.loop-round-preserved
loop-round-preserved c =
    let i = c.loop-round.invariant in
    let more = one_more c.args.span.0 c.loop-round.round (names_cell c.args.schedule.now c.args.body.now c.args.place c.args.team) i.from in
    grind (arith, common_steps, more)
