use Rattle.std.proofs.Common.{◌≡◌, ◌+◌, true, false, not, sym, ◌∙◌, ap}
use Rattle.league.specs.Sets.{has}
use Rattle.fixtures.specs.Games.{round_count}
use Rattle.tours.proofs.exchanged_legs.FlippedLegs.{in_below}
use Rattle.tours.proofs.exchanged_legs.EdgeLegs.{delta_at_first, delta_at_second, now_first, now_second}
use Rattle.tours.proofs.teams_delta.exchange.TeamExchange.legs_at_edge.Goals as goal

pub returns-then-has-clause-before : goal.returns-then-has-clause-before
returns-then-has-clause-before c =
    let x = c.args.self.now in
    c.legs_across.ensures.before ∙
    now_first x.league.now c.teams.ensures.limits.table.symmetric x.schedule.now x.i x.j (has x.rounds) c.args.round c.requires.round

pub returns-then-has-clause-after : goal.returns-then-has-clause-after
returns-then-has-clause-after c =
    let x = c.args.self.now in
    let here : has x.rounds c.args.round ≡ true = sym c.has.ensures ∙ c.if-has.true in
    c.legs_across.ensures.after ∙
    delta_at_first x.league.now c.teams.ensures.limits.table.symmetric x.schedule.now x.i x.j (has x.rounds) c.args.round
    c.requires.round here (c.requires.edge ∙ ap not here)

pub returns-else-has-clause-before : goal.returns-else-has-clause-before
returns-else-has-clause-before c =
    let x = c.args.self.now in
    c.legs_across-else-has.ensures.before ∙
    now_second x.league.now c.teams.ensures.limits.table.symmetric x.schedule.now x.i x.j (has x.rounds) c.args.round c.requires.round

pub returns-else-has-clause-after : goal.returns-else-has-clause-after
returns-else-has-clause-after c =
    let x = c.args.self.now in
    let out : has x.rounds c.args.round ≡ false = sym c.has.ensures ∙ c.if-has.false in
    let next : has x.rounds (c.args.round + 1) ≡ true = c.requires.edge ∙ ap not out in
    c.legs_across-else-has.ensures.after ∙
    delta_at_second x.league.now c.teams.ensures.limits.table.symmetric x.schedule.now x.i x.j (has x.rounds) c.args.round
    c.requires.round out (in_below (round_count x.schedule.now.teams) x.rounds (c.args.round + 1) x.below next) next
