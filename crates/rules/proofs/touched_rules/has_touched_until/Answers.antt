use Rattle.std.proofs.Common.{arith, sym, ◌∙◌, refl}
use Rattle.league.specs.Limits.{max_rounds}
use Rattle.league.specs.Sets.{IsBelow}
use Rattle.league.proofs.ForCallers.{lowest_below}
use Rattle.rules.proofs.walks.Searches.{touched_until, untouched_until}
use Rattle.rules.proofs.touched_rules.has_touched_until.Goals as goal

pub below-earlier-requires : goal.below-earlier-requires
below-earlier-requires c =
    let below : IsBelow max_rounds c.into_iter.result = omega arith in
    omega (arith, lowest_below max_rounds _ _ _ below c.in-Some.ensures.steps)

pub returns-in-Some : goal.returns-in-Some
returns-in-Some c =
    c.intersects.ensures ∙
    touched_until c.args.slots c.args.touched _ _ _ (rw c.into_iter.ensures.into_iter_gives at c.in-Some.ensures.steps)
    (λ r. c.difference.ensures.members r ∙ rw (c.below.ensures.members r, c.below-earlier.ensures.members r) refl)

pub returns-in-None : goal.returns-in-None
returns-in-None c =
    sym (untouched_until c.args.slots _ (sym c.into_iter.ensures.into_iter_gives ∙ c.in-None.ensures.steps.0))
