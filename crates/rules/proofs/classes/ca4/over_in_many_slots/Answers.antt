use Rattle.std.proofs.Common.{◌<◌, ◌&&◌, ◌∙◌, ap, arith}
use Rattle.league.specs.Sets.{has}
use Rattle.league.proofs.ForCallers.{lowest_below}
use Rattle.rules.proofs.rows.AllTeams.{counted_from-all}
use Rattle.rules.proofs.counted.RoundCounts.{counted_none, counted_more, counted_small, over_of_numbers, none_over}
use Rattle.rules.proofs.classes.ca4.over_in_many_slots.Goals as goal

pub returns-then-most-into : goal.returns-then-most-into
returns-then-most-into c =
    none_over c.args.schedule.now c.args.games.now.side (has c.args.games.now.teams) (has c.args.games.now.opponents) (has c.args.slots)
    c.args.most (omega arith)

pub loop-team-init : goal.loop-team-init
loop-team-init c =
    counted_none _ _ _ _ _ _ _ _ (omega arith) c.into_iter-team-iterator.ensures.into_iter_gives c.new-numbers.ensures

pub rounds_on_side-requires : goal.rounds_on_side-requires
rounds_on_side-requires c = lowest_below _ _ _ _ (c.loop-team.invariant.counted 0).below c.in-Some.ensures.steps

pub add-requires : goal.add-requires
add-requires c = counted_small _ _ _ _ _ _ _ _ c.loop-team.invariant c.teams.ensures.round_robin.most

pub loop-team-preserved : goal.loop-team-preserved
loop-team-preserved c =
    let in_range : c.in-Some.team < c.args.schedule.now.teams =
    lowest_below _ _ _ _ (c.loop-team.invariant.counted 0).below c.in-Some.ensures.steps in
    counted_more _ _ _ _ _ _ _ _ _ _ _ _ c.loop-team.invariant c.in-Some.ensures.steps
    (λ r.
    c.intersection.ensures.members r ∙
    ap (λ b. b && has c.args.slots r) (c.rounds_on_side.ensures.members r) ∙
    counted_from-all c.args.schedule.now c.requires.round_robin c.args.games.now.side c.args.games.now.opponents c.requires.opponents
    c.in-Some.team r (has c.args.slots r) in_range)
    c.add.ensures

pub returns : goal.returns
returns c =
    c.over_64.ensures ∙
    over_of_numbers c.args.schedule.now _ _ _ _ _ _ _ c.loop-team.invariant c.teams.ensures.round_robin.most c.in-None.ensures.steps.0
    (omega arith) c.requires.slots
