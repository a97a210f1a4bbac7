use Rattle.std.proofs.Common.{refl, ◌∙◌}
use Rattle.improvement.specs.within.Lines.{IsWaiting}
use Rattle.improvement.proofs.Lines.{all_front, line_run, turns_run}
use Rattle.improvement.proofs.line.LegQueue.run_first.Goals as goal

pub loop-self-preserved : goal.loop-self-preserved
loop-self-preserved g c =
    let was = c.loop-self.invariant in
    let w = c.in-Some.leg in
    let r = c.in_ok-running.running in
    let popped = c.in-Some.ensures.items in
    let pushed = c.in_ok-push_back.ensures.items in
    let runs = c.in_ok-running.ensures.running in
    record {
      some = (was.some.0, line_run c.loop-self.self _ w r was.some.1 popped pushed refl (runs was.some.0));
      line = λ legs line. line_run c.loop-self.self _ w r (was.line legs line) popped pushed refl (runs legs);
      assignments = turns_run c.loop-self.self _ _ w r popped pushed c.in_ok-running.ensures.assignment ∙ was.assignments;
      series = was.series;
    }

pub returns-in_default-clause-line : goal.returns-in_default-clause-line
returns-in_default-clause-line g c = λ legs line.
    let now = c.loop-self.invariant.line legs line in
    record {
      stage = now.stage;
      running = now.running;
      waiting = (all_front (IsWaiting c.args.setting.start.now legs) _ _ c.pop_front.result c.pop_front.ensures.items now.waiting).0;
    }
