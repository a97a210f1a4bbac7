use Rattle.std.proofs.Common.{arith, sym, subst}
use Rattle.improvement.specs.within.Lines.{IsStage, MayBegin}
use Rattle.improvement.specs.declared.stage.LegBeginning.{LegBeginning}
use Rattle.improvement.proofs.Lines.{best_begins, left_more, line_with, on_ok, stage_entering}
use Rattle.improvement.proofs.line.LegQueue.go_on.Goals as goal

pub returns-in-Some-clause-line : goal.returns-in-Some-clause-line
returns-in-Some-clause-line c = λ start legs is line.
    on_ok c.wait.result (λ waiting. line_with c.args.self.now c.wait.new.self _ _ c.in-Some.leg c.at_best.result line
    (subst (IsStage start legs) (sym c.wait.ensures.stage) line.stage) c.in-Some.ensures.leg
    (subst (λ (b : LegBeginning). MayBegin start legs b.chain b.board) (sym c.at_best.ensures) (best_begins c.args.entrant is)) waiting
    c.wait.ensures.running) c.wait.ensures.waiting

pub returns-in-Some-clause-left : goal.returns-in-Some-clause-left
returns-in-Some-clause-left c =
    on_ok c.wait.result (λ waiting. omega (
      arith,
      left_more c.args.self.now c.wait.new.self _ waiting c.wait.ensures.running,
      c.wait.ensures.left,
      c.in-Some.ensures.left,
    )) c.wait.ensures.waiting

pub returns-in-None-clause-line : goal.returns-in-None-clause-line
returns-in-None-clause-line c = λ start legs is line.
    on_ok c.end_bout.result (λ stage. record {
      stage = subst (IsStage start legs) (sym stage) (stage_entering c.args.self.now.stage c.args.entrant is line.stage);
      running = line.running;
      waiting = line.waiting;
    }) c.end_bout.ensures
