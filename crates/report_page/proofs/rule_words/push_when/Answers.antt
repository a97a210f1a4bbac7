use Rattle.std.proofs.Common.{◌≡◌, true}
use Rattle.report_page.specs.RuleWords.{when_text}
use Rattle.report_page.proofs.rule_words.push_when.Goals as goal

pub returns-then-each : goal.returns-then-each
unfolding when_text
returns-then-each c =
    let each : c.in-Ca4.each ≡ true = c.if-each.true in
    rw (c.in-Ca4.is, each) (rw (c.round_count-rounds.ensures.value, c.teams.ensures.value) at c.push_each_slot.ensures)
