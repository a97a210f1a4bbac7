use Rattle.std.proofs.Common.{sym, subst}
use Rattle.std.proofs.lemmas.List.Elements.{All-nil}
use Rattle.improvement.specs.within.Lines.{IsEntrant, IsStage}
use Rattle.improvement.proofs.line.LegQueue.fill.Goals as goal

pub returns-in_default-clause-line : goal.returns-in_default-clause-line
returns-in_default-clause-line c = λ start legs line.
    let now = c.in_ok-line_up.ensures.line start legs line in
    record { stage = now.stage; running = now.running; waiting = now.waiting }

pub returns-clause-line : goal.returns-clause-line
returns-clause-line c = λ start legs line.
    let now = c.in_ok-line_up.ensures.line start legs line in
    c.in_ok-line_up-2.ensures.line start legs (c.in_ok-line_up_bout.ensures.line start legs (record {
      stage = subst (IsStage start legs) (sym c.begin.ensures)
          (record { before = now.stage.field; field = All-nil (IsEntrant start legs) });
      running = now.running;
      waiting = now.waiting;
    }))
