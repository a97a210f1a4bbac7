use Rattle.std.proofs.Common.{arith}
use Rattle.bounds.specs.within.Tables.{leg_at}
use Rattle.bounds.proofs.Layers.{one_layer_more}
use Rattle.bounds.proofs.walks.label_walks.Goals as goal

pub loop-games-preserved : goal.loop-games-preserved
loop-games-preserved c =
    one_layer_more c.args.traveller.teams c.args.traveller.home c.loop-games.games (leg_at c.args.legs.now) c.loop-games.labels
    c.label_next.new.labels (omega arith) (omega arith) c.loop-games.invariant c.label_next.ensures.kept c.label_next.ensures.next
