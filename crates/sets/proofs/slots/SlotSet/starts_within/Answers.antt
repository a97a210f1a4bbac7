use Rattle.std.proofs.Common.{arith, rules}
use Rattle.sets.specs.Limits.{max_rounds}
use Rattle.sets.proofs.SetBits.{IsBelow_common}
use Rattle.sets.proofs.SetRows.{has_longer_row}
use Rattle.sets.proofs.slots.SlotSet.starts_within.Goals as goal

pub loop-preserved : goal.loop-preserved
loop-preserved c = record {
  some = omega arith;
  members = λ s. has_longer_row c.args.self c.loop.starts c.loop.counter s c.loop.invariant.some c.loop.invariant.members;
  fits = IsBelow_common max_rounds c.loop.starts _ c.loop.invariant.fits;
  below = λ m below. IsBelow_common m c.loop.starts _ (c.loop.invariant.below m below);
}

pub returns : goal.returns
returns c = search rules
