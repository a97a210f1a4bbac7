use Rattle.std.proofs.Common.{◌∙◌}
use Rattle.tours.proofs.whole_travel.distance.Goals as goal

pub returns-clause-back : goal.returns-clause-back
returns-clause-back c = c.from.ensures ∙ c.distance.ensures.value ∙ c.teams.ensures.limits.table.symmetric c.args.from c.args.to
