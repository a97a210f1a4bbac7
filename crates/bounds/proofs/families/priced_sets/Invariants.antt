use Rattle.bounds.specs.within.Prices.{AreOfOpponents}
use Rattle.bounds.proofs.families.priced_sets.Given as goal

abbrev pub invariant-loop-j : goal.invariant-loop-j
invariant-loop-j l = AreOfOpponents l.traveller.teams l.traveller.home l.sets.items

abbrev pub invariant-loop-j-2 : goal.invariant-loop-j-2
invariant-loop-j-2 l = AreOfOpponents l.traveller.teams l.traveller.home l.sets.items
