use Rattle.bounds.specs.within.Tables.{leg_at, walk_at, AreWalks}
use Rattle.bounds.proofs.walks.label_walks.Given as goal

abbrev pub invariant-loop-games : goal.invariant-loop-games
invariant-loop-games l = AreWalks l.traveller.teams l.traveller.home l.games (leg_at l.legs) (walk_at l.labels)
