use Rattle.std.proofs.Common.{◌+◌, sym, ◌∙◌, ap, ap₂}
use Rattle.fixtures.specs.declared.game.Cell.{Cell}
use Rattle.tours.proofs.exchanged_legs.VisitsDelta.{visit_legs}
use Rattle.tours.proofs.teams_delta.exchange.TeamExchange.legs_of_visit.Goals as goal

pub returns-then-is_visit-clause-before : goal.returns-then-is_visit-clause-before
returns-then-is_visit-clause-before c =
    c.distance-before.ensures.back ∙
    (visit_legs c.args.self.now c.game_at-guest.ensures.round_robin c.args.host c.args.round c.requires.is_host
    c.requires.host c.requires.round c.requires.home c.requires.in_set _ _ _ _ _
    (ap (λ (x : Cell). x.opponent) c.game_at-guest.ensures.value) c.stop-from.ensures.value c.stop-to.ensures.value
    c.place_predicted-from_predicted.ensures.value c.exchanged-other.ensures.value).ends_before (sym c.is_visit.ensures ∙ c.if-is_visit.true)

pub returns-then-is_visit-clause-after : goal.returns-then-is_visit-clause-after
returns-then-is_visit-clause-after c =
    c.distance-after.ensures.back ∙
    (visit_legs c.args.self.now c.game_at-guest.ensures.round_robin c.args.host c.args.round c.requires.is_host
    c.requires.host c.requires.round c.requires.home c.requires.in_set _ _ _ _ _
    (ap (λ (x : Cell). x.opponent) c.game_at-guest.ensures.value) c.stop-from.ensures.value c.stop-to.ensures.value
    c.place_predicted-from_predicted.ensures.value c.exchanged-other.ensures.value).ends_after (sym c.is_visit.ensures ∙ c.if-is_visit.true)

pub returns-clause-before : goal.returns-clause-before
returns-clause-before c =
    ap₂ (λ x y. x + y) c.distance-before.ensures.back c.distance.ensures.value ∙
    (visit_legs c.args.self.now c.game_at-guest.ensures.round_robin c.args.host c.args.round c.requires.is_host
    c.requires.host c.requires.round c.requires.home c.requires.in_set _ _ _ _ _
    (ap (λ (x : Cell). x.opponent) c.game_at-guest.ensures.value) c.stop-from.ensures.value c.stop-to.ensures.value
    c.place_predicted-from_predicted.ensures.value c.exchanged-other.ensures.value).on_before (sym c.is_visit.ensures ∙ c.if-is_visit.false)

pub returns-clause-after : goal.returns-clause-after
returns-clause-after c =
    ap₂ (λ x y. x + y) c.distance-after.ensures.back c.distance-2.ensures.value ∙
    (visit_legs c.args.self.now c.game_at-guest.ensures.round_robin c.args.host c.args.round c.requires.is_host
    c.requires.host c.requires.round c.requires.home c.requires.in_set _ _ _ _ _
    (ap (λ (x : Cell). x.opponent) c.game_at-guest.ensures.value) c.stop-from.ensures.value c.stop-to.ensures.value
    c.place_predicted-from_predicted.ensures.value c.exchanged-other.ensures.value).on_after (sym c.is_visit.ensures ∙ c.if-is_visit.false)
