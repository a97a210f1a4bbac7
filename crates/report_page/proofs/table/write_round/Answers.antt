use Rattle.report_page.specs.Table.{game_at}
use Rattle.report_page.proofs.Rows.{AddsRows-nothing, AddsRows-piece}
use Rattle.report_page.proofs.table.write_round.Goals as goal

pub loop-team-init : goal.loop-team-init
loop-team-init g c = AddsRows-nothing c.requires.between

pub loop-team-preserved : goal.loop-team-preserved
loop-team-preserved g c = AddsRows-piece (λ setup. game_at setup c.args.league.now c.args.schedule.now c.args.round) c.loop-team.team c.loop-team.invariant
    c.in_ok-write_game.ensures
