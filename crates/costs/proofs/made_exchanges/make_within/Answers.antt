use Rattle.std.proofs.Common.{◌≡◌, ℕ, not, false, Some, slice_get, length, sym, ◌∙◌, ap, subst, arith}
use Rattle.costs.specs.declared.attempt.Attempt.{Attempt}
use Rattle.costs.specs.within.CostParts.{IsPredicted}
use Rattle.league.specs.Sets.{has}
use Rattle.fixtures.specs.Exchanges.{exchanged_by}
use Rattle.fixtures.specs.Games.{Games}
use Rattle.costs.specs.within.KeptDeviations.{AreRests}
use Rattle.costs.specs.Evaluators.{IsEvaluatorOf}
use Rattle.std.specs.Prelude.{slice_index}
use Rattle.league.specs.declared.rule.Rule.{Rule}
use Rattle.rules.specs.Deviations.{deviation}
use Rattle.costs.proofs.KeptDeviations.{index_below, from_some, kept_after, known_at, rests_after, still_deviations}
use Rattle.costs.proofs.Parts.{predicted_alone, score_after, within_is_small}
use Rattle.costs.proofs.made_exchanges.make_within.Goals as goal
use Rattle.costs.proofs.made_exchanges.make_within.Goals.{then-is_none, else-is_none}

pub score_by-requires : goal.score_by-requires
score_by-requires c =
    let whole = predicted_alone c.args.attempt.now.weights c.requires.weights c.in_ok-predicted.ensures c.teams.ensures.limits c.requires.same_size
    (omega (arith, c.rule_count.ensures.value, c.if-rule_count-eq0.true)) (sym c.phased.ensures ∙ c.if-not-phased.true) in
    whole.fits

pub returns-then-score_by-attempt-clause-value : goal.returns-then-score_by-attempt-clause-value
returns-then-score_by-attempt-clause-value c =
    let whole = predicted_alone c.args.attempt.now.weights c.requires.weights c.in_ok-predicted.ensures c.teams.ensures.limits c.requires.same_size
    (omega (arith, c.rule_count.ensures.value, c.if-rule_count-eq0.true)) (sym c.phased.ensures ∙ c.if-not-phased.true) in
    omega (arith, whole.score_is, c.score_by.ensures, c.if-score_by-attempt.true)

pub returns-then-not-phased-clause-value : goal.returns-then-not-phased-clause-value
returns-then-not-phased-clause-value c =
    let whole = predicted_alone c.args.attempt.now.weights c.requires.weights c.in_ok-predicted.ensures c.teams.ensures.limits c.requires.same_size
    (omega (arith, c.rule_count.ensures.value, c.if-rule_count-eq0.true)) (sym c.phased.ensures ∙ c.if-not-phased.true) in
    (whole.is, omega (arith, c.score_by.ensures, c.if-score_by-attempt.false))

pub returns-then-not-phased-clause-small : goal.returns-then-not-phased-clause-small
returns-then-not-phased-clause-small c =
    let whole = predicted_alone c.args.attempt.now.weights c.requires.weights c.in_ok-predicted.ensures c.teams.ensures.limits c.requires.same_size
    (omega (arith, c.rule_count.ensures.value, c.if-rule_count-eq0.true)) (sym c.phased.ensures ∙ c.if-not-phased.true) in
    whole.small

pub rest_within-requires-clause-predicted : goal.rest_within-requires-clause-predicted
rest_within-requires-clause-predicted c =
    subst (λ (a : Attempt). IsPredicted c.args.league.now c.args.schedule.now a.exchange.now c.in_ok-predicted.predicted) (sym c.of-scope.ensures.attempt)
    c.in_ok-predicted.ensures

pub returns-clause-small : goal.returns-clause-small
returns-clause-small c =
    within_is_small c.args.league.now _ _ _ _ c.whole_within-cost.ensures.cost
    (rw c.make-2.ensures.made
    (score_after c.args.league.now c.args.schedule.now c.args.attempt.now.exchange.now c.teams.ensures.limits c.requires.same_size))

-- the schedule after the exchange of the scope is that after the attempt's
schedule_is : (c : goal.After-scope-2-1) → exchanged_by c.args.schedule.now c.of-scope.result.attempt.exchange.now ≡ c.make-2.new.schedule
schedule_is c =
    ap (λ (a : Attempt). exchanged_by c.args.schedule.now a.exchange.now) c.of-scope.ensures.attempt ∙ sym c.make-2.ensures.made

pub whole_within-cost-requires-clause-rests : goal.whole_within-cost-requires-clause-rests
whole_within-cost-requires-clause-rests c = λ known.
    subst (λ (g : Games). AreRests c.args.league.now.rules c.of-scope.result (has c.of-scope.result.rules) g c.rest_within.new.deviations.kept c.rest_within.new.deviations.next)
    (schedule_is c)
    (rests_after c.args.league.now c.args.schedule.now c.of-scope.result c.teams.ensures.limits c.requires.same_size c.of-scope.ensures.scope
    _ _ (c.in_ok-rest.ensures.rests known))

pub returns-clause-evaluator : goal.returns-clause-evaluator
returns-clause-evaluator c =
    let league = subst (IsEvaluatorOf c.args.league.now.rules) (sym c.evaluator.view_is) c.requires.evaluator.league in
    let moved = ap (λ (a : Attempt). exchanged_by c.args.schedule.now a.exchange.now) c.of-scope.ensures.attempt ∙
    sym c.make-2.ensures.made in
    let kept = still_deviations c.args.league.now.rules c.args.schedule.now _ c.whole_within-cost.new.deviations c.rest_within.ensures.deviations
    c.whole_within-cost.ensures.same c.whole_within-cost.ensures.next_length in
    elim c.if-is_none.branch [
      | then-is_none w ↦ rw (w.schedule-is, w.evaluator-inside-is)
          (record {
            league = record { index = league.index; order = league.order };
            schedule = rw (w.make-then-is_none.ensures.made ∙ c.make-2.ensures.back)
                (known_at c.args.league.now.rules c.args.schedule.now c.whole_within-cost.new.deviations kept);
          })
      | else-is_none w ↦ rw (w.schedule-is, w.evaluator-inside-is)
          (record {
            league = record { index = league.index; order = league.order };
            schedule = known_at c.args.league.now.rules c.make-2.new.schedule w.keep.new.self
                (record {
                  kept_length = w.keep.ensures.kept_length;
                  next_length = ap length w.keep.ensures.next ∙ c.whole_within-cost.ensures.next_length;
                  deviations = λ known.
                      let was_known = sym w.keep.ensures.known ∙ known in
                      record {
                        each = subst
                            (λ (g : Games). (i : ℕ) (rule : Rule) → slice_get c.args.league.now.rules i ≡ Some rule →
                            slice_index w.keep.new.self.kept i ≡ deviation g rule.body)
                            moved
                            (kept_after c.args.league.now c.args.schedule.now c.of-scope.result c.teams.ensures.limits c.requires.same_size
                            c.of-scope.ensures.scope (c.of-scope.ensures.rules c.args.league.now c.requires.evaluator.league) c.whole_within-cost.new.deviations.kept
                            c.whole_within-cost.new.deviations.next c.whole_within-cost.new.deviations.kept w.keep.new.self.kept
                            c.whole_within-cost.new.deviations.broken (kept.deviations was_known)
                            (subst
                            (λ (g : Games). AreRests c.args.league.now.rules c.of-scope.result (λ _. false) g c.whole_within-cost.new.deviations.kept c.whole_within-cost.new.deviations.next)
                            (sym moved)
                            (from_some c.whole_within-cost.result _ (c.is_none.ensures ∙ ap not w.if-is_none.false) c.whole_within-cost.ensures.all
                            was_known))
                            w.keep.ensures.kept);
                        broken = λ i rule at.
                            w.keep.ensures.broken i (omega (arith, index_below c.args.league.now.rules i rule at, w.rule_count-else-is_none.ensures.value));
                      };
                });
          })
    ]

pub rest_within-requires-clause-rules : goal.rest_within-requires-clause-rules
rest_within-requires-clause-rules c = c.of-scope.ensures.rules c.args.league.now c.requires.evaluator.league

pub whole_within-cost-requires-clause-rules : goal.whole_within-cost-requires-clause-rules
whole_within-cost-requires-clause-rules c = c.of-scope.ensures.rules c.args.league.now c.requires.evaluator.league
