use Rattle.std.proofs.Common.{◌≡◌, ◌<◌, true, sym, ◌∙◌}
use Rattle.std.proofs.lemmas.Bool.{cond-true}
use Rattle.league.specs.Sets.{has}
use Rattle.fixtures.specs.Games.{round_count}
use Rattle.tours.specs.Tours.{leg}
use Rattle.tours.proofs.exchanged_legs.EdgeLegs.{delta_at_start, some_round}
use Rattle.tours.proofs.teams_delta.exchange.TeamExchange.first_legs.Goals as goal

pub returns-then-has-clause-before : goal.returns-then-has-clause-before
unfolding leg
returns-then-has-clause-before c =
    c.legs_across.ensures.before ∙ sym (cond-true _ _ _ (sym c.has.ensures ∙ c.if-has.true))

pub returns-then-has-clause-after : goal.returns-then-has-clause-after
returns-then-has-clause-after c =
    let x = c.args.self.now in
    let first : has x.rounds 0 ≡ true = sym c.has.ensures ∙ c.if-has.true in
    let some : 0 < round_count x.schedule.now.teams = some_round _ _ _ x.first x.second x.distinct in
    c.legs_across.ensures.after ∙
    delta_at_start x.league.now x.schedule.now x.i x.j (has x.rounds) some first ∙ sym (cond-true _ _ _ first)
