use Rattle.std.proofs.Common.{sym, ◌∙◌}
use Rattle.std.proofs.lemmas.Bool.{cond-true, cond-false, eq-eqb, ne_eqb}
use Rattle.tours.proofs.rounds_delta.changed_legs.Goals as goal

pub returns-then-stop-clause-before : goal.returns-then-stop-clause-before
returns-then-stop-clause-before c =
    sym (cond-true _ _ _ (eq-eqb _ _ (sym c.stop.ensures.value ∙ c.if-stop.true ∙ c.stop-2.ensures.value)))

pub returns-then-stop-clause-after : goal.returns-then-stop-clause-after
returns-then-stop-clause-after c =
    sym (cond-true _ _ _ (eq-eqb _ _ (sym c.stop.ensures.value ∙ c.if-stop.true ∙ c.stop-2.ensures.value)))

pub returns-clause-before : goal.returns-clause-before
returns-clause-before c =
    c.legs_of_team.ensures.before ∙
    sym (cond-false _ _ _ (ne_eqb _ _ (λ e. c.if-stop.false (c.stop.ensures.value ∙ e ∙ sym c.stop-2.ensures.value))))

pub returns-clause-after : goal.returns-clause-after
returns-clause-after c =
    c.legs_of_team.ensures.after ∙
    sym (cond-false _ _ _ (ne_eqb _ _ (λ e. c.if-stop.false (c.stop.ensures.value ∙ e ∙ sym c.stop-2.ensures.value))))
