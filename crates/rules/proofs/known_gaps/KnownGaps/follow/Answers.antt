use Rattle.std.proofs.Common.{◌∙◌, ap, get_or, refl, arith}
use Rattle.league.specs.Limits.{max_teams}
use Rattle.rules.specs.within.Walked.{row_of}
use Rattle.rules.specs.declared.home_table.HomeTable.{HomeTable}
use Rattle.rules.proofs.rows.GapTables.{left_none, left_more, left_all}
use Rattle.rules.proofs.known_gaps.KnownGaps.follow.Goals as goal

pub loop-place-init : goal.loop-place-init
loop-place-init c = (left_none _ _ c.requires.known c.follow-flipped.ensures.table, refl)

pub loop-place-preserved : goal.loop-place-preserved
loop-place-preserved c = (
  left_more _ _ _ _ _ _ _ c.loop-place.invariant.0 c.loop-place-test.true
      (λ t stays. ap (λ (h : HomeTable). row_of h.rows t) c.loop-place.invariant.1 ∙ c.follow-flipped.ensures.others t stays)
      c.difference-table.ensures.members
      (c.difference-table.ensures.below max_teams (c.loop-place.invariant.0.left c.loop-place.place _ (omega arith) c.loop-place-test.true).below),
  c.loop-place.invariant.1,
)

pub returns-clause-known : goal.returns-clause-known
returns-clause-known c = left_all _ _ _ _ (omega (arith, c.loop-place-test.false)) c.loop-place.invariant.0

pub returns-clause-rows : goal.returns-clause-rows
returns-clause-rows c = λ t r in_teams in_season.
    ap (λ (h : HomeTable). get_or (row_of h.rows t) r 0) c.loop-place.invariant.1 ∙ c.follow-flipped.ensures.rows t r in_teams in_season

pub returns-clause-slots : goal.returns-clause-slots
returns-clause-slots c = c.loop-place.invariant.0.slots
