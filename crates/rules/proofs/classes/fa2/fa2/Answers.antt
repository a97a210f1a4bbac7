use Rattle.std.proofs.Common.{◌∙◌}
use Rattle.rules.proofs.rows.HomeTables.{all_gaps}
use Rattle.rules.proofs.classes.fa2.fa2.Goals as goal

pub returns : goal.returns
returns c =
    c.gaps_with.ensures.value ∙
    all_gaps c.args.schedule.now c.args.fairness.now.teams c.args.fairness.now.slots c.args.fairness.now.most
