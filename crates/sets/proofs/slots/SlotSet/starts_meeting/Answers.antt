use Rattle.std.proofs.Common.{refl, arith, rules}
use Rattle.sets.specs.Limits.{max_rounds}
use Rattle.sets.proofs.SetBits.{IsBelow_union, IsBelow_shifted}
use Rattle.sets.proofs.Sums.{any_below_none}
use Rattle.sets.proofs.SetRows.{has_one_of_longer_row}
use Rattle.sets.proofs.slots.SlotSet.starts_meeting.Goals as goal

pub loop-preserved : goal.loop-preserved
loop-preserved c = record {
  some = omega arith;
  members = λ s. has_one_of_longer_row c.args.self c.loop.starts c.loop.counter s c.loop.invariant.some c.loop.invariant.members;
  fits = IsBelow_union max_rounds c.loop.starts _ c.loop.invariant.fits (IsBelow_shifted max_rounds _ 1 c.loop.invariant.fits);
  below = λ m below. IsBelow_union m c.loop.starts _ (c.loop.invariant.below m below)
      (IsBelow_shifted m _ 1 (c.loop.invariant.below m below));
}

pub returns-then-length-eq0-clause-members : goal.returns-then-length-eq0-clause-members
returns-then-length-eq0-clause-members c = λ s. rw (c.empty.ensures.members s, c.if-length-eq0.true, any_below_none) refl

pub returns-then-length-eq0-clause-below : goal.returns-then-length-eq0-clause-below
returns-then-length-eq0-clause-below c = search rules

pub returns : goal.returns
returns c = search rules
