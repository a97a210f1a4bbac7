use Rattle.std.proofs.Common.{◌∙◌}
use Rattle.rules.proofs.counted.CountedRounds.{breaks_in_slots}
use Rattle.rules.proofs.break_rules.breaks.Goals as goal

pub returns-clause-value : goal.returns-clause-value
returns-clause-value c =
    c.breaks_from.ensures.value ∙
    breaks_in_slots c.args.schedule.now c.args.side c.args.team _ c.args.slots c.rounds_before.ensures.members
