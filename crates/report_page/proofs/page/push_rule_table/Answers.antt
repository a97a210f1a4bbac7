use Rattle.std.proofs.Common.{codes}
use Rattle.report_page.specs.Page.{rules_head, sorted_rules}
use Rattle.report_page.proofs.Pushes.{added_between}
use Rattle.report_page.proofs.page.push_rule_table.Goals as goal

pub returns : goal.returns
returns c =
    added_between c.push_pieces-2.result c.args.page.now.items c.push_pieces.new.page.items c.push_sorted_rules.new.page.items
    c.push_pieces-2.new.page.items
    rules_head (sorted_rules c.args.league.now c.args.schedule.now) (codes "</table>") c.in_ok-push_pieces.ensures
    c.in_ok-push_sorted_rules.ensures c.push_pieces-2.ensures
