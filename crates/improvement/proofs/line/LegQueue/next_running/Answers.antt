use Rattle.std.proofs.Common.{refl}
use Rattle.improvement.specs.within.Lines.{IsRunning}
use Rattle.improvement.proofs.Lines.{all_front, front_left}
use Rattle.improvement.proofs.line.LegQueue.next_running.Goals as goal

pub returns-clause-line : goal.returns-clause-line
returns-clause-line c = λ start legs line. record {
  stage = line.stage;
  running = (all_front (IsRunning start legs) _ _ c.pop_front.result c.pop_front.ensures.items line.running).0;
  waiting = line.waiting;
}

pub returns-clause-leg : goal.returns-clause-leg
returns-clause-leg c = λ start legs line.
    (all_front (IsRunning start legs) _ _ c.pop_front.result c.pop_front.ensures.items line.running).1

pub returns-clause-left : goal.returns-clause-left
returns-clause-left c =
    front_left c.args.self.now c.args.self.now c.args.self.now _ c.pop_front.result refl refl refl c.pop_front.ensures.items
