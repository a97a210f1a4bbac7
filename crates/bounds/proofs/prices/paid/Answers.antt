use Rattle.std.proofs.Common.{◌*◌, slice_index, ap, arith}
use Rattle.sets.proofs.ForCallers.{sum_below_more}
use Rattle.bounds.proofs.prices.paid.Goals as goal

pub loop-k-preserved : goal.loop-k-preserved
loop-k-preserved c =
    omega (
      arith,
      c.saturating_add-paid.ensures,
      c.saturating_mul.ensures,
      ap (λ x. slice_index c.args.prices.now c.loop-k.k * x) c.from.ensures,
      c.loop-k.invariant,
      sum_below_more c.loop-k.k (λ k. slice_index c.args.prices.now k * slice_index c.args.entries.now k),
    )
