use Rattle.league.proofs.MadeLeagues.{IsLeague-as_made}
use Rattle.league.proofs.made.made.Goals as goal

pub new-requires-2 : goal.new-requires-2
new-requires-2 c =
    IsLeague-as_made c.args.layout c.args.n _ _ _ _ (cc) c.in_ok-names.ensures (cc (c.in_ok-distances.ensures)) c.new.ensures.items c.none.ensures
