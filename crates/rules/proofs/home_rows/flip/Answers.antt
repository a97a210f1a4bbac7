use Rattle.std.proofs.Common.{◌<◌, ◌∙◌, sym, arith}
use Rattle.league.specs.Limits.{max_rounds}
use Rattle.league.proofs.ForCallers.{lowest_below}
use Rattle.rules.proofs.rows.HomeRows.{row_small, flipped_none, flipped_all, flipped_home, flipped_away, flipped_some}
use Rattle.rules.proofs.home_rows.flip.Goals as goal

pub loop-round-init : goal.loop-round-init
loop-round-init c = flipped_none _ _ _ _ c.requires.changed c.into_iter-round-iterator.ensures.into_iter_gives c.requires.row

pub has-requires : goal.has-requires
has-requires c = lowest_below _ _ _ _ c.loop-round.invariant.below c.in-Some.ensures.steps

pub gain-requires-clause-first : goal.gain-requires-clause-first
gain-requires-clause-first c =
    let in_season : c.in-Some.round < max_rounds = lowest_below _ _ _ _ c.loop-round.invariant.below c.in-Some.ensures.steps in
    omega (arith, in_season)

pub gain-requires-clause-fits : goal.gain-requires-clause-fits
gain-requires-clause-fits c = row_small _ _ c.loop-round.invariant.is

pub lose-requires-clause-first : goal.lose-requires-clause-first
lose-requires-clause-first c =
    let in_season : c.in-Some.round < max_rounds = lowest_below _ _ _ _ c.loop-round.invariant.below c.in-Some.ensures.steps in
    omega (arith, in_season)

pub lose-requires-clause-some : goal.lose-requires-clause-some
lose-requires-clause-some c =
    flipped_some _ _ _ _ _ c.loop-round.invariant c.in-Some.ensures.steps (sym c.has.ensures ∙ c.if-has.false)

pub loop-round-preserved-then-has : goal.loop-round-preserved-then-has
loop-round-preserved-then-has c =
    flipped_home _ _ _ _ _ c.loop-round.invariant c.in-Some.ensures.steps _ (sym c.has.ensures ∙ c.if-has.true) c.gain.ensures.len
    c.gain.ensures.gained

pub loop-round-preserved : goal.loop-round-preserved
loop-round-preserved c =
    flipped_away _ _ _ _ _ c.loop-round.invariant c.in-Some.ensures.steps _ (sym c.has.ensures ∙ c.if-has.false) c.lose.ensures.len
    c.lose.ensures.lost

pub returns : goal.returns
returns c = flipped_all _ _ _ c.in-None.ensures.steps.0 c.loop-round.invariant
