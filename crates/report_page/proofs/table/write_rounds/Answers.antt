use Rattle.report_page.specs.Table.{games_of_round}
use Rattle.report_page.proofs.Rows.{AddsRows-nothing, AddsRows-piece}
use Rattle.report_page.proofs.table.write_rounds.Goals as goal

pub loop-round-init : goal.loop-round-init
loop-round-init g c = AddsRows-nothing c.requires.between

pub loop-round-preserved : goal.loop-round-preserved
loop-round-preserved g c = AddsRows-piece (λ setup. games_of_round setup c.args.league.now c.args.schedule.now) c.loop-round.round c.loop-round.invariant
    c.in_ok-write_round.ensures
