use Rattle.std.proofs.Common.{◌&&◌, ap, arith, sym, ◌∙◌}
use Rattle.std.proofs.lemmas.Bool.{lt-ltb}
use Rattle.league.specs.Sets.{has}
use Rattle.league.proofs.ForCallers.{lowest_below}
use Rattle.rules.proofs.unaltered.AroundOwn.{meets_none_yet, meets_none_more, is_guest_found, is_no_guest}
use Rattle.rules.proofs.around.is_guest.Goals as goal

pub loop-round-init : goal.loop-round-init
loop-round-init c =
    meets_none_yet c.args.schedule.now c.args.main c.args.rounds c.args.team _
    (omega (
      arith,
      c.into_iter-round-iterator.ensures.into_iter_gives,
      rw c.rounds.ensures.number at (c.intersection-in_season.ensures.below _ c.below.ensures.below),
    ))
    (λ r in_r. ap (λ s. has s r) c.into_iter-round-iterator.ensures.into_iter_gives ∙ c.intersection-in_season.ensures.members r ∙
    ap (λ b. b && has c.args.rounds r) (c.below.ensures.members r ∙ lt-ltb r _ (omega (arith, in_r, c.rounds.ensures.number))))

pub meets_one_of-requires-clause-round : goal.meets_one_of-requires-clause-round
meets_one_of-requires-clause-round c = lowest_below _ _ _ _ c.loop-round.invariant.below c.in-Some.ensures.steps

pub returns-then-meets_one_of : goal.returns-then-meets_one_of
returns-then-meets_one_of c =
    let in_r = lowest_below _ _ _ _ c.loop-round.invariant.below c.in-Some.ensures.steps in
    sym (is_guest_found c.args.schedule.now c.args.main c.args.rounds c.args.team c.in-Some.round in_r
    (c.loop-round.invariant.within _ in_r c.in-Some.ensures.steps.in_set)
    (sym c.meets_one_of.ensures ∙ c.if-meets_one_of.true))

pub loop-round-preserved : goal.loop-round-preserved
loop-round-preserved c =
    meets_none_more c.args.schedule.now c.args.main c.args.rounds c.args.team _ _ _ c.loop-round.invariant c.in-Some.ensures.steps
    (sym c.meets_one_of.ensures ∙ c.if-meets_one_of.false)

pub returns : goal.returns
returns c = sym (is_no_guest c.args.schedule.now c.args.main c.args.rounds c.args.team _ c.loop-round.invariant c.in-None.ensures.steps.0)
