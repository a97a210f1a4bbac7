use Rattle.std.proofs.Common.{◌+◌, ◌-◌, not, ◌&&◌, ◌∙◌, ap, ap₂, arith}
use Rattle.std.specs.Bool.{beq}
use Rattle.std.proofs.lemmas.Bool.{lt-ltb}
use Rattle.league.specs.Sets.{has}
use Rattle.fixtures.specs.Games.{IsPair}
use Rattle.fixtures.proofs.ForCallers.{stays_among_closed}
use Rattle.tours.proofs.streaks_and_repeats.EdgeRepeats.{edges_delta}
use Rattle.tours.proofs.repeats_delta.repeats_of_teams.Goals as goal

pub returns-clause-balance : goal.returns-clause-balance
returns-clause-balance c =
    let g = c.args.schedule.now in
    let p : IsPair g.teams c.args.i c.args.j = record { home_in = c.requires.i; away_in = c.requires.j; distinct = c.requires.distinct } in
    let number = c.rounds-rounds.ensures.number in
    rw (c.repeats_at_edges.ensures.before, c.repeats_at_edges.ensures.after)
    (edges_delta g c.teams.ensures.round_robin c.args.i c.args.j p (has c.args.among)
    (stays_among_closed g c.args.i c.args.j (has c.args.among) c.requires.first_out c.requires.second_out c.requires.closed)
    c.requires.first_out c.requires.second_out (has c.difference-edges.result)
    (λ r below.
    c.difference-edges.ensures.members r ∙
    ap₂ (λ x y. x && not y)
    (c.below.ensures.members r ∙ lt-ltb r (c.rounds-rounds.result - 1) (omega (arith, number)))
    (c.like_next_below-like_next.ensures.members r ∙
    ap (λ b. b && beq (has c.args.among r) (has c.args.among (r + 1))) (lt-ltb (r + 1) c.rounds-rounds.result (omega (arith, number))))))
