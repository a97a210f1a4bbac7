use Rattle.std.proofs.Common.{ℕ, sym, arith, refl, ◌∙◌}
use Rattle.std.proofs.lemmas.Bool.{cond-true, cond-false}
use Rattle.league.specs.Sets.{has}
use Rattle.league.proofs.ForCallers.{sum_without_none, sum_without_more, sum_without_all, lowest_below}
use Rattle.rules.proofs.rows.MetPairs.{counted_distinct, sum_without_same}
use Rattle.rules.proofs.walks.Sets.{sum_of_both}
use Rattle.rules.proofs.classes.se1.short_with.Goals as goal

pub loop-other-init : goal.loop-other-init
loop-other-init c = sum_without_none _ _ _ _ _ (omega arith) c.into_iter-other-iterator.ensures.into_iter_gives

pub counts_pair-requires : goal.counts_pair-requires
counts_pair-requires c =
    omega (arith, lowest_below _ _ _ _ c.loop-other.invariant.below c.in-Some.ensures.steps, c.requires.round_robin.most)

pub rounds_between-requires : goal.rounds_between-requires
rounds_between-requires c = record {
  home_in = lowest_below _ _ _ _ c.loop-other.invariant.below c.in-Some.ensures.steps;
  away_in = c.requires.team;
  distinct = counted_distinct c.args.main c.args.team c.in-Some.other (sym c.counts_pair.ensures ∙ c.if-counts_pair.true);
}

pub loop-other-preserved-then-counts_pair : goal.loop-other-preserved-then-counts_pair
loop-other-preserved-then-counts_pair c =
    sum_without_more _ _ _ _ _ _ _ _ _ c.loop-other.invariant c.in-Some.ensures.steps
    (rw c.rounds_between.ensures at c.over-total.ensures.value ∙
    sym (cond-true {A = ℕ} _ _ 0 (sym c.counts_pair.ensures ∙ c.if-counts_pair.true)))
    (omega arith)

pub loop-other-preserved : goal.loop-other-preserved
loop-other-preserved c =
    sum_without_same _ _ _ _ _ _ _ _ c.loop-other.invariant c.in-Some.ensures.steps
    (cond-false {A = ℕ} _ _ 0 (sym c.counts_pair.ensures ∙ c.if-counts_pair.false))

pub returns-clause-value : goal.returns-clause-value
returns-clause-value c =
    sum_without_all _ _ _ _ _ _ _ c.loop-other.invariant c.in-None.ensures.steps.0 (λ k below. refl) ∙
    sum_of_both c.args.schedule.now.teams (has c.args.others) _ _
