use Rattle.std.proofs.Common.{◌∙◌}
use Rattle.rules.proofs.rows.HomeTables.{none_over, told_by_rows}
use Rattle.rules.proofs.home_table.HomeTable.gaps_with.Goals as goal

pub returns-then-spread-fairness-clause-value : goal.returns-then-spread-fairness-clause-value
returns-then-spread-fairness-clause-value c =
    none_over c.args.schedule.now _ _ c.args.fairness.now.teams c.args.set c.args.fairness.now.slots c.args.fairness.now.most
    c.requires.round_robin c.requires.teams c.requires.slots c.follow.ensures.rows c.requires.mask _ c.if-spread-fairness.true c.spread.ensures

pub returns-clause-value : goal.returns-clause-value
returns-clause-value c =
    c.over.ensures ∙
    told_by_rows c.args.schedule.now _ _ c.args.fairness.now.teams c.args.set c.args.fairness.now.slots c.args.fairness.now.most
    c.requires.round_robin c.requires.teams c.requires.slots c.follow.ensures.rows c.requires.mask
