use Rattle.std.proofs.Common.{◌≡◌, ◌+◌, ◌≤◌}
use Rattle.league.specs.League.{teams}
use Rattle.costs.specs.Evaluators.{IsEvaluatorAt}
use Rattle.search.specs.within.Steps.{IsCopyCost}
use Rattle.benchmarks.proofs.tries.try_moves.Given as goal

abbrev pub invariant-loop-index : goal.invariant-loop-index
invariant-loop-index l = record {
  counted : l.kept + l.withdrawn ≤ l.index;
  same_size : teams l.league ≡ l.schedule.teams;
  size : l.schedule.teams ≡ l.teams;
  evaluator : IsEvaluatorAt l.league l.schedule l.evaluator;
  known : IsCopyCost l.league l.schedule l.known.cost l.known.score;
}
