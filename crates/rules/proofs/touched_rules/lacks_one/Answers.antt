use Rattle.std.proofs.Common.{◌∙◌}
use Rattle.league.specs.Sets.{has}
use Rattle.rules.proofs.walks.Searches.{touched_lacked}
use Rattle.rules.proofs.touched_rules.lacks_one.Goals as goal

pub returns : goal.returns
returns c = c.intersects.ensures ∙ touched_lacked c.args.slots _ (has c.args.rounds) c.difference-lacked.ensures.members
