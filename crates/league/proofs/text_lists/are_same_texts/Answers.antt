use Rattle.league.proofs.Equality.{texts_decide}
use Rattle.league.proofs.text_lists.are_same_texts.Goals as goal

pub returns : goal.returns
returns c = rw c.eq.ensures (texts_decide c.args.list.now c.args.other.now)
