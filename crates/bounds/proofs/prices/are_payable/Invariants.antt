use Rattle.std.proofs.Common.{◌≤◌, slice_index}
use Rattle.sets.specs.Sums.{sum_below}
use Rattle.bounds.specs.within.Prices.{longer}
use Rattle.bounds.proofs.prices.are_payable.Given as goal

abbrev pub invariant-loop-price : goal.invariant-loop-price
invariant-loop-price l = l.all ≤ longer → sum_below l.price-index (slice_index l.prices) ≤ l.all
