use Rattle.std.proofs.Common.{◌≡◌, ◌+◌, ◌≤◌}
use Rattle.league.specs.League.{teams}
use Rattle.costs.specs.Evaluators.{IsEvaluatorAt}
use Rattle.search.specs.Heard.{IsHeard}
use Rattle.search.specs.within.Steps.{IsCopyCost}
use Rattle.search.proofs.Reporting.{ReportsBut}
use Rattle.search.proofs.workers.take_steps.Given as goal

abbrev pub invariant-loop-s : goal.invariant-loop-s
invariant-loop-s g l = record {
  whole : l.report.made ≡ l.report.accepted + l.report.refused;
  few : l.report.made ≤ l.s;
  same_size : teams l.context.scoring.league.now ≡ l.copy.teams;
  evaluator : IsEvaluatorAt l.context.scoring.league.now l.copy l.state.evaluator;
  copy_cost : IsCopyCost l.context.scoring.league.now l.copy l.state.copy_cost.cost l.state.copy_cost.score;
  heard : IsHeard (g.G.Gate.heard l.context.gate.now l.plan.worker) l.report;
  reported : ReportsBut (g.G.Gate.was_reported l.context.gate.now l.plan.worker) l.s l.progress;
  counted : g.D.Door.granted l.door ≡ g.D.Door.granted l.fn.door + l.report.accepted;
  stays : g.D.Door.stays l.fn.door l.door;
}
