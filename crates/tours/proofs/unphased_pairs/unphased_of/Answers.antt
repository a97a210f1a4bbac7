use Rattle.std.proofs.Common.{◌<◌, refl, arith}
use Rattle.league.proofs.ForCallers.{sum_without_none, sum_without_more, sum_without_all, lowest_below}
use Rattle.tours.proofs.unphased_pairs.unphased_of.Goals as goal

pub loop-low-init : goal.loop-low-init
loop-low-init c = sum_without_none _ _ _ _ _ (omega arith) c.into_iter-low-iterator.ensures.into_iter_gives

pub is_unphased-requires : goal.is_unphased-requires
is_unphased-requires c =
    let lower : c.in-Some.low < c.args.team = lowest_below _ _ _ _ c.loop-low.invariant.below c.in-Some.ensures.steps in
    record { home_in = omega arith; away_in = omega arith; distinct = omega arith }

pub loop-low-preserved : goal.loop-low-preserved
loop-low-preserved c = sum_without_more _ _ _ _ _ _ _ _ _ c.loop-low.invariant c.in-Some.ensures.steps (grind arith) (grind arith)

pub returns-clause-value : goal.returns-clause-value
returns-clause-value c = sum_without_all _ _ _ _ _ _ _ c.loop-low.invariant c.in-None.ensures.steps.0 (λ k below. refl)
