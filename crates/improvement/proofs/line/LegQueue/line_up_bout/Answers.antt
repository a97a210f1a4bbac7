use Rattle.std.proofs.Common.{◌∙◌}
use Rattle.improvement.specs.within.Lines.{waiting_for}
use Rattle.improvement.proofs.Lines.{bout_lined, on_ok, assignments_more}
use Rattle.improvement.proofs.line.LegQueue.line_up_bout.Goals as goal

pub returns-clause-line : goal.returns-clause-line
returns-clause-line c = λ start legs line.
    on_ok c.wait.result (λ waiting. bout_lined c.args.self.now c.wait.new.self _ c.args.bout _ c.in-Some.leg c.in_ok-beginning.beginning line
    c.in-Some.ensures.leg c.in_ok-beginning.ensures.beginning (c.wait.ensures.stage ∙ c.in_ok-beginning.ensures.stage) waiting
    c.wait.ensures.running) c.wait.ensures.waiting

pub returns-clause-assignments : goal.returns-clause-assignments
returns-clause-assignments c =
    on_ok c.wait.result (λ waiting. (
      _,
      assignments_more c.args.self.now c.wait.new.self (waiting_for c.args.self.now.series.lined c.args.bout c.in-Some.leg c.in_ok-beginning.beginning)
          waiting c.wait.ensures.running,
    )) c.wait.ensures.waiting
