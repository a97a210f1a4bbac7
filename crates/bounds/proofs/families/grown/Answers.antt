use Rattle.bounds.proofs.Opponents.{opponent_more}
use Rattle.bounds.proofs.families.grown.Goals as goal

pub returns : goal.returns
returns c =
    opponent_more c.args.traveller.teams c.args.traveller.home c.args.set c.args.next c.with.result c.requires.set c.requires.next
    c.requires.other c.with.ensures.members c.with.ensures.below
