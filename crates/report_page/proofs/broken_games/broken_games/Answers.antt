use Rattle.std.proofs.Common.{◌∙◌, ◌||◌, ap, take_all, arith}
use Rattle.std.specs.List.{list_any}
use Rattle.league.specs.declared.rule.Rule.{Rule}
use Rattle.report_breaches.specs.Cells.{is_marked}
use Rattle.report_page.specs.Grid.{breaks_rule}
use Rattle.report_page.proofs.BrokenGames.{one_rule_more}
use Rattle.report_page.proofs.broken_games.broken_games.Goals as goal

pub loop-i-preserved : goal.loop-i-preserved
loop-i-preserved c = λ t r team_in round_in.
    c.in_ok-add_rule.ensures t r team_in round_in ∙
    ap (λ before. before || is_marked c.args.schedule.now c.rule.result.now.body t r) (c.loop-i.invariant t r team_in round_in) ∙
    one_rule_more c.args.schedule.now t r c.args.league.now.rules c.loop-i.i c.rule.result.now c.rule.ensures.value

pub returns : goal.returns
unfolding breaks_rule
returns c = λ t r team_in round_in.
    c.loop-i.invariant t r team_in round_in ∙ ap (list_any (λ (rule : Rule). is_marked c.args.schedule.now rule.body t r))
    (take_all c.loop-i.i c.args.league.now.rules (omega (arith, c.rule_count-i-end.ensures.value)))
