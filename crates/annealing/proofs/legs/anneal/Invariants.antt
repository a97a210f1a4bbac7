use Rattle.std.proofs.Common.{◌≤◌}
use Rattle.draws.specs.Reported.{AreReported}
use Rattle.annealing.specs.within.Progress.{IsGoing, IsWithin}
use Rattle.annealing.proofs.legs.anneal.Given as goal

abbrev pub invariant-loop-number : goal.invariant-loop-number
invariant-loop-number g l = record {
  going : IsGoing l.leg l.fn.chain.board l.number l.going;
  reported : AreReported (g.G.Gate.was_reported l.gate 0) l.going.steps;
  within : 1 ≤ l.number → IsWithin l.conditions.weights l.going.weight;
}
