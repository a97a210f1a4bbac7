use Rattle.std.proofs.Common.{◌∙◌, ap, sym, refl, arith}
use Rattle.std.proofs.lemmas.Bool.{and_parts}
use Rattle.std.proofs.lemmas.List.{length-set}
use Rattle.league.specs.Limits.{max_rules}
use Rattle.league.specs.Sets.{has}
use Rattle.league.proofs.ForCallers.{has_empty, lowest_below}
use Rattle.costs.proofs.KeptDeviations.{keep_none, keep_more, keep_all}
use Rattle.costs.proofs.kept_deviations.KeptDeviations.keep.Goals as goal

pub offset_bounds-self-i : goal.offset_bounds-self-i
offset_bounds-self-i c = omega (arith, lowest_below max_rules _ _ _ c.loop-i.invariant.below c.in-Some.ensures.steps)

pub bounds-self-i : goal.bounds-self-i
bounds-self-i c = lowest_below max_rules _ _ _ c.loop-i.invariant.below c.in-Some.ensures.steps

pub offset_bounds-self-i-in-loop-i : goal.offset_bounds-self-i-in-loop-i
offset_bounds-self-i-in-loop-i c = omega (arith, lowest_below max_rules _ _ _ c.loop-i.invariant.below c.in-Some.ensures.steps)

pub bounds-self-i-in-loop-i : goal.bounds-self-i-in-loop-i
bounds-self-i-in-loop-i c = lowest_below max_rules _ _ _ c.loop-i.invariant.below c.in-Some.ensures.steps

pub loop-i-init : goal.loop-i-init
loop-i-init c = record {
  below = rw c.into_iter-i-iterator.ensures.into_iter_gives c.requires.rules;
  known = refl;
  next = refl;
  kept_length = c.requires.kept_length;
  kept = rw c.into_iter-i-iterator.ensures.into_iter_gives (keep_none _ _ _);
  within = λ i has_it. sym (ap (λ set. has set i) c.into_iter-i-iterator.ensures.into_iter_gives) ∙ has_it;
}

pub loop-i-preserved : goal.loop-i-preserved
loop-i-preserved c =
    let taken = c.in-Some.ensures.steps in
    record {
      below = omega (arith, c.loop-i.invariant.below, taken.fewer);
      known = c.loop-i.invariant.known;
      next = c.loop-i.invariant.next;
      kept_length = length-set _ _ _ ∙ c.loop-i.invariant.kept_length;
      kept = rw c.loop-i.invariant.next
          (keep_more _ _ _ _ _ _ _ (omega (arith, lowest_below max_rules _ _ _ c.loop-i.invariant.below taken, c.loop-i.invariant.kept_length))
          taken (c.loop-i.invariant.within _ taken.in_set) c.loop-i.invariant.kept);
      within = λ i has_it. c.loop-i.invariant.within i (and_parts _ _ (sym (taken.others i) ∙ has_it)).0;
    }

pub returns-clause-kept : goal.returns-clause-kept
returns-clause-kept c =
    keep_all _ _ _ _ _ (λ k. ap (λ set. has set k) c.in-None.ensures.steps.0 ∙ has_empty k) c.loop-i.invariant.kept
