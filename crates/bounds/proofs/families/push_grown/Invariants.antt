use Rattle.bounds.specs.within.Prices.{IsOfOpponents, AreOfOpponents}
use Rattle.bounds.proofs.families.push_grown.Given as goal

abbrev pub invariant-loop-size : goal.invariant-loop-size
invariant-loop-size l = record {
  grown : IsOfOpponents l.traveller.teams l.traveller.home l.set;
  all : AreOfOpponents l.traveller.teams l.traveller.home l.sets.items;
}
