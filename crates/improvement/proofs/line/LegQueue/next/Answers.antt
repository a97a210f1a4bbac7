use Rattle.improvement.specs.within.Lines.{IsRunning}
use Rattle.improvement.proofs.Lines.{all_front, front_left, front_more}
use Rattle.improvement.proofs.line.LegQueue.next.Goals as goal

pub returns-then-not-branch-clause-line : goal.returns-then-not-branch-clause-line
returns-then-not-branch-clause-line g c = λ legs line. c.in_ok-fill.ensures.line _ legs line

pub run_first-requires-clause-line : goal.run_first-requires-clause-line
run_first-requires-clause-line g c = λ κs within. (c.requires.line.0, c.in_ok-fill.ensures.line _ c.requires.line.0 c.requires.line.1)

pub returns-clause-line : goal.returns-clause-line
returns-clause-line g c = λ legs line.
    let now = c.in_ok-run_first.ensures.line legs (c.in_ok-fill.ensures.line _ legs line) in
    record {
      stage = now.stage;
      running = (all_front (IsRunning c.args.setting.start.now legs) _ _ c.pop_front.result c.pop_front.ensures.items now.running).0;
      waiting = now.waiting;
    }

pub returns-clause-leg : goal.returns-clause-leg
returns-clause-leg g c = λ legs line.
    let now = c.in_ok-run_first.ensures.line legs (c.in_ok-fill.ensures.line _ legs line) in
    (all_front (IsRunning c.args.setting.start.now legs) _ _ c.pop_front.result c.pop_front.ensures.items now.running).1

pub returns-clause-first : goal.returns-clause-first
returns-clause-first g c =
    front_more c.args.self.now c.fill.new.self c.run_first.new.self _ c.pop_front.result c.in_ok-fill.ensures.assignments
    c.in_ok-run_first.ensures.assignments c.pop_front.ensures.items

pub returns-clause-left : goal.returns-clause-left
returns-clause-left g c =
    front_left c.args.self.now c.fill.new.self c.run_first.new.self _ c.pop_front.result c.in_ok-fill.ensures.left
    c.in_ok-run_first.ensures.assignments c.in_ok-run_first.ensures.series c.pop_front.ensures.items
