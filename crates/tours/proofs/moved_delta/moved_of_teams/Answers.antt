use Rattle.std.proofs.Common.{◌≡◌, ◌<◌, true, refl, sym, ◌∙◌, ap, arith}
use Rattle.league.specs.Sets.{has}
use Rattle.league.specs.Starts.{start_round}
use Rattle.fixtures.specs.Games.{round_count, IsPair}
use Rattle.fixtures.proofs.ForCallers.{stays_among_closed}
use Rattle.tours.proofs.legs.TwoTotals.{totals_begun, next_in, totals_more, totals_ended}
use Rattle.tours.proofs.moved_counts.MovedDelta.{apart, teams_delta}
use Rattle.tours.proofs.moved_delta.moved_of_teams.Goals as goal
use Rattle.tours.proofs.moved_delta.moved_of_teams.Goals.{In-Some}

pub loop-round-init : goal.loop-round-init
loop-round-init c =
    totals_begun _ _ _ _ _ _ (omega (arith, c.into_iter-round-iterator.ensures.into_iter_gives)) refl

-- a round of the set
in_set : (c : In-Some) → (c.in-Some.round < round_count c.args.schedule.now.teams) × (has c.args.among c.in-Some.round ≡ true)
in_set c =
    let next = next_in _ _ _ _ _ _ _ _ _ _ c.loop-round.invariant c.in-Some.ensures.steps in (
      next.0,
      sym (c.rounds_in-rounds.ensures.members c.in-Some.round next.0) ∙
          ap (λ set. has set c.in-Some.round) (sym c.into_iter-round-iterator.ensures.into_iter_gives) ∙ next.1,
    )

pub moved_of_two-moved-requires-clause-round : goal.moved_of_two-moved-requires-clause-round
moved_of_two-moved-requires-clause-round c = (in_set c).0

pub moved_of_two-moved-requires-clause-first_apart : goal.moved_of_two-moved-requires-clause-first_apart
moved_of_two-moved-requires-clause-first_apart c =
    apart c.args.schedule.now c.teams.ensures.round_robin (has c.args.among) c.args.i c.args.j _ c.requires.i (in_set c).0 (in_set c).1
    c.requires.first_out c.requires.second_out

pub moved_of_two-moved-requires-clause-second_apart : goal.moved_of_two-moved-requires-clause-second_apart
moved_of_two-moved-requires-clause-second_apart c =
    apart c.args.schedule.now c.teams.ensures.round_robin (has c.args.among) c.args.j c.args.i _ c.requires.j (in_set c).0 (in_set c).1
    c.requires.second_out c.requires.first_out

pub loop-round-preserved : goal.loop-round-preserved
loop-round-preserved c =
    totals_more _ _ _ _ _ _ _ _ _ _ _ _ c.loop-round.invariant c.in-Some.ensures.steps c.moved_of_two-moved.ensures.before
    c.moved_of_two-moved.ensures.after c.moved_of_two-moved.ensures.before_limit c.moved_of_two-moved.ensures.after_limit

pub returns-clause-balance : goal.returns-clause-balance
returns-clause-balance c =
    let g = c.args.schedule.now in
    let p : IsPair g.teams c.args.i c.args.j = record { home_in = c.requires.i; away_in = c.requires.j; distinct = c.requires.distinct } in
    rw (
      (totals_ended _ _ _ _ _ _ _ _ c.loop-round.invariant c.in-None.ensures.steps.0).before,
      (totals_ended _ _ _ _ _ _ _ _ c.loop-round.invariant c.in-None.ensures.steps.0).after,
      c.into_iter-round-iterator.ensures.into_iter_gives,
    )
    (teams_delta (start_round c.args.league.now) g c.teams.ensures.round_robin c.args.i c.args.j p (has c.args.among)
    (stays_among_closed g c.args.i c.args.j (has c.args.among) c.requires.first_out c.requires.second_out c.requires.closed)
    c.requires.first_out c.requires.second_out (has c.rounds_in-rounds.result) c.rounds_in-rounds.ensures.members)
