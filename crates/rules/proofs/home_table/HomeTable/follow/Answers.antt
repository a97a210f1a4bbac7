use Rattle.std.proofs.Common.{◌<◌, sym, ◌∙◌, arith}
use Rattle.std.proofs.lemmas.Bool.{eqb-true, not-false}
use Rattle.league.proofs.ForCallers.{lowest_below}
use Rattle.rules.proofs.rows.HomeTables.{followed_none, followed_more, followed_same, followed_all, row_to_flip}
use Rattle.rules.proofs.home_table.HomeTable.follow.Goals as goal

pub loop-team-init : goal.loop-team-init
loop-team-init c = followed_none _ _ _ _ _ c.requires.table c.requires.teams c.into_iter-team-iterator.ensures.into_iter_gives

pub home_rounds-homes-requires : goal.home_rounds-homes-requires
home_rounds-homes-requires c = lowest_below _ _ _ _ c.loop-team.invariant.below c.in-Some.ensures.steps

pub listed : goal.listed
listed c =
    let in_games : c.in-Some.team < c.args.schedule.now.teams = lowest_below _ _ _ _ c.loop-team.invariant.below c.in-Some.ensures.steps in
    omega (arith, in_games, c.requires.round_robin.most, c.from-place.ensures, c.loop-team.invariant.is.homes_len)

pub bounds-self-place : goal.bounds-self-place
bounds-self-place c =
    let in_games : c.in-Some.team < c.args.schedule.now.teams = lowest_below _ _ _ _ c.loop-team.invariant.below c.in-Some.ensures.steps in
    omega (arith, in_games, c.requires.round_robin.most, c.from-place.ensures)

pub bounds-self-place-then-ne : goal.bounds-self-place-then-ne
bounds-self-place-then-ne c =
    let in_games : c.in-Some.team < c.args.schedule.now.teams = lowest_below _ _ _ _ c.loop-team.invariant.below c.in-Some.ensures.steps in
    omega (arith, in_games, c.requires.round_robin.most, c.from-place.ensures)

pub flip-requires-clause-row : goal.flip-requires-clause-row
flip-requires-clause-row c =
    let in_games : c.in-Some.team < c.args.schedule.now.teams = lowest_below _ _ _ _ c.loop-team.invariant.below c.in-Some.ensures.steps in
    row_to_flip _ c.in-Some.team c.from-place.result _ _ _ c.loop-team.invariant.is c.from-place.ensures
    (omega (arith, in_games, c.requires.round_robin.most)) c.symmetric_difference-changed.ensures.members

pub listed-then-ne : goal.listed-then-ne
listed-then-ne c =
    let in_games : c.in-Some.team < c.args.schedule.now.teams = lowest_below _ _ _ _ c.loop-team.invariant.below c.in-Some.ensures.steps in
    omega (arith, in_games, c.requires.round_robin.most, c.from-place.ensures, c.loop-team.invariant.is.homes_len)

pub bounds-self-place-then-ne-2 : goal.bounds-self-place-then-ne-2
bounds-self-place-then-ne-2 c =
    let in_games : c.in-Some.team < c.args.schedule.now.teams = lowest_below _ _ _ _ c.loop-team.invariant.below c.in-Some.ensures.steps in
    omega (arith, in_games, c.requires.round_robin.most, c.from-place.ensures)

pub with-flipped-requires : goal.with-flipped-requires
with-flipped-requires c =
    let in_games : c.in-Some.team < c.args.schedule.now.teams = lowest_below _ _ _ _ c.loop-team.invariant.below c.in-Some.ensures.steps in
    omega (arith, in_games, c.requires.round_robin.most)

pub loop-team-preserved-then-ne : goal.loop-team-preserved-then-ne
loop-team-preserved-then-ne c =
    followed_more c.args.schedule.now _ _ _ _ _ _ _ _ c.from-place.result _ _ c.requires.round_robin.most c.loop-team.invariant
    c.with-flipped.ensures.members c.in-Some.ensures.steps c.from-place.ensures
    (lowest_below _ _ _ _ c.loop-team.invariant.below c.in-Some.ensures.steps) c.home_rounds-homes.ensures.members c.flip.ensures

pub loop-team-preserved : goal.loop-team-preserved
loop-team-preserved c =
    followed_same c.args.schedule.now _ _ _ _ _ _ _ c.from-place.result c.index-self-place.result _ c.requires.round_robin.most c.loop-team.invariant
    c.in-Some.ensures.steps c.from-place.ensures (lowest_below _ _ _ _ c.loop-team.invariant.below c.in-Some.ensures.steps)
    c.home_rounds-homes.ensures.members (eqb-true _ _ (not-false _ (sym c.ne.ensures ∙ c.if-ne.false)))

pub returns-clause-rows : goal.returns-clause-rows
returns-clause-rows c = followed_all _ _ _ _ _ _ c.in-None.ensures.steps.0 c.loop-team.invariant
