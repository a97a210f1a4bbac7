use Rattle.std.proofs.Common.{◌∙◌}
use Rattle.league.specs.Sets.{has}
use Rattle.rules.specs.Touches.{has_touched_slot}
use Rattle.rules.proofs.walks.Searches.{touched_break}
use Rattle.rules.proofs.touched_rules.has_touched_break.Goals as goal

pub returns : goal.returns
unfolding has_touched_slot
returns c = c.intersects.ensures ∙ touched_break c.args.slots _ (has c.args.touched) c.with_next_below.ensures.members
