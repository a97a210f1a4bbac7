use Rattle.std.proofs.Common.{◌≡◌, length, sym, ap, slice_index, arith}
use Rattle.sets.specs.Sums.{sum_below}
use Rattle.sets.proofs.ForCallers.{sum_below_none, sum_below_more}
use Rattle.bounds.proofs.league_bound.sum_of.Goals as goal

pub loop-bound-init : goal.loop-bound-init
loop-bound-init c = record { sum_is = sym (sum_below_none (slice_index c.args.bounds.now)); small = omega arith }

pub loop-bound-preserved : goal.loop-bound-preserved
loop-bound-preserved c = record {
  sum_is = omega (arith, c.loop-bound.invariant.sum_is, sum_below_more c.loop-bound.bound-index (slice_index c.args.bounds.now));
  small = omega (arith, c.loop-bound.invariant.small, c.requires.small c.loop-bound.bound-index);
}
