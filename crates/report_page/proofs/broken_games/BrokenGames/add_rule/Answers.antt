use Rattle.std.proofs.Common.{◌∙◌}
use Rattle.report_breaches.specs.Cells.{is_marked}
use Rattle.report_page.specs.within.BrokenGames.{has_game}
use Rattle.report_page.proofs.BrokenGames.{one_team_more}
use Rattle.report_page.proofs.broken_games.BrokenGames.add_rule.Goals as goal

pub loop-team-preserved : goal.loop-team-preserved
unfolding is_marked
loop-team-preserved c = λ t r team_in round_in.
    c.add.ensures t r ∙
    rw (c.rounds_named.ensures r round_in, c.deref.ensures.value, c.in_ok-breaches.ensures, c.loop-team.invariant t r team_in round_in)
    (one_team_more (has_game c.args.self.now t r) (λ team. is_marked c.args.schedule.now c.args.rule.now.body team r) c.loop-team.team t)
