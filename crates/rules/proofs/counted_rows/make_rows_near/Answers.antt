use Rattle.std.proofs.Common.{ℕ, refl, subst, ◌∙◌, ap, arith}
use Rattle.std.proofs.lemmas.Bool.{and_from, lt-ltb}
use Rattle.league.specs.Sets.{has, IsBelow}
use Rattle.league.proofs.ForCallers.{has_empty, lowest_below}
use Rattle.rules.proofs.rows.RowsByRounds.{near_none, near_more}
use Rattle.rules.proofs.counted_rows.make_rows_near.Goals as goal

pub loop-round-init : goal.loop-round-init
loop-round-init c =
    near_none _ _ _ _ _ _
    (subst (λ (n : ℕ). IsBelow n c.into_iter-round-iterator.result) c.rounds-season.ensures.number
    (omega (arith, c.into_iter-round-iterator.ensures.into_iter_gives, c.intersection-in_season.ensures.below _ c.below.ensures.below)))
    refl c.requires.len

pub overflow_add-round : goal.overflow_add-round
overflow_add-round c = omega (
  arith,
  c.rounds-season.ensures.number,
  c.rounds-season.ensures.most,
  lowest_below _ _ _ _ c.loop-round.invariant.below c.in-Some.ensures.steps,
)

pub overflow_add-round-in-loop-round : goal.overflow_add-round-in-loop-round
overflow_add-round-in-loop-round c = omega (
  arith,
  c.rounds-season.ensures.number,
  c.rounds-season.ensures.most,
  lowest_below _ _ _ _ c.loop-round.invariant.below c.in-Some.ensures.steps,
)

pub loop-round-preserved : goal.loop-round-preserved
loop-round-preserved c =
    near_more _ _ _ _ _ _ _ _ _ _ _ _ c.loop-round.invariant c.in-Some.ensures.steps c.add_rounds-made.ensures.len
    c.add_rounds-made.ensures.kept c.add_rounds-made.ensures.added
    (λ r near later. omega (arith, c.saturating_sub.ensures, c.max-from.ensures))
    (λ r in_r near. omega (arith, c.min-past.ensures, c.rounds-season.ensures.number, c.add_rounds-made.ensures.past))

pub returns-clause-members : goal.returns-clause-members
returns-clause-members c = λ r at in_r in_at changed near_at near_r.
    c.loop-round.invariant.made r at in_r
    (ap (λ s. has s at) c.into_iter-round-iterator.ensures.into_iter_gives ∙ c.intersection-in_season.ensures.members at ∙
    and_from _ _ (c.below.ensures.members at ∙ lt-ltb at c.rounds-season.result (omega (arith, in_at, c.rounds-season.ensures.number))) changed)
    (ap (λ s. has s at) c.in-None.ensures.steps.0 ∙ has_empty at) near_at near_r
