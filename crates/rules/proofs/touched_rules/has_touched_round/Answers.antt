use Rattle.std.proofs.Common.{◌∙◌}
use Rattle.league.specs.Sets.{has}
use Rattle.rules.proofs.walks.Searches.{touched_round}
use Rattle.rules.proofs.touched_rules.has_touched_round.Goals as goal

pub returns : goal.returns
returns c = c.intersects.ensures ∙ touched_round _ (has c.args.touched) c.below.ensures.members
