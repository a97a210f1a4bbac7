use Rattle.std.proofs.Common.{◌∙◌, sym}
use Rattle.std.proofs.lemmas.Bool.{and_parts}
use Rattle.league.specs.Sets.{has}
use Rattle.tours.proofs.legs.GuestLegs.{sum_of_visits}
use Rattle.tours.proofs.teams_delta.exchange.TeamExchange.guests_legs.Goals as goal

pub legs_of_visits-requires-clause-home : goal.legs_of_visits-requires-clause-home
legs_of_visits-requires-clause-home c = λ r is.
    (and_parts _ _ (sym (c.home_rounds-home.ensures.members r) ∙
    (and_parts (has c.home_rounds-home.result r) (has c.args.self.now.rounds r) (sym (c.intersection-visits.ensures.members r) ∙ is)).0)).1

pub legs_of_visits-requires-clause-in_set : goal.legs_of_visits-requires-clause-in_set
legs_of_visits-requires-clause-in_set c = λ r is.
    (and_parts (has c.home_rounds-home.result r) (has c.args.self.now.rounds r) (sym (c.intersection-visits.ensures.members r) ∙ is)).1

pub returns-clause-before : goal.returns-clause-before
returns-clause-before c =
    c.legs_of_visits.ensures.before ∙
    sum_of_visits c.args.self.now.schedule.now _ c.args.host _ _ _ c.home_rounds-home.ensures.members c.intersection-visits.ensures.members

pub returns-clause-after : goal.returns-clause-after
returns-clause-after c =
    c.legs_of_visits.ensures.after ∙
    sum_of_visits c.args.self.now.schedule.now _ c.args.host _ _ _ c.home_rounds-home.ensures.members c.intersection-visits.ensures.members
