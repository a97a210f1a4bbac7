use Rattle.std.proofs.Common.{slice_index, arith}
use Rattle.sets.proofs.ForCallers.{sum_below_none, sum_below_more}
use Rattle.bounds.proofs.prices.are_payable.Goals as goal

pub loop-price-init : goal.loop-price-init
loop-price-init c = λ _. omega (arith, sum_below_none (slice_index c.args.prices.now))

pub loop-price-preserved : goal.loop-price-preserved
loop-price-preserved c = λ within.
    omega (
      arith,
      c.saturating_add-all.ensures,
      c.loop-price.invariant (omega (arith, c.saturating_add-all.ensures)),
      sum_below_more c.loop-price.price-index (slice_index c.args.prices.now),
    )
