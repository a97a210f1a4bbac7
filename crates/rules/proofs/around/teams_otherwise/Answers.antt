use Rattle.std.proofs.Common.{◌∙◌, ◌==◌, sym, ap}
use Rattle.league.specs.Sets.{all_numbers}
use Rattle.rules.proofs.balances.PartTerms.{otherwise_flipped, otherwise_met, otherwise_main, otherwise_around}
use Rattle.rules.proofs.around.teams_otherwise.Goals as goal

pub returns-then-eq-clause-members : goal.returns-then-eq-clause-members
returns-then-eq-clause-members c = λ t.
    c.intersection.ensures.members t ∙
    otherwise_flipped c.args.schedule.now c.args.change.now.main c.args.change.now.rounds c.args.change.now.sides c.args.opponents
    c.args.teams t
    (sym (ap (λ s. c.args.opponents == s) (c.below.ensures.value ∙ ap all_numbers c.teams.ensures.number)) ∙ sym c.eq.ensures ∙
    c.if-eq.true)

pub returns-then-takes_all_or_none-clause-members : goal.returns-then-takes_all_or_none-clause-members
returns-then-takes_all_or_none-clause-members c = λ t.
    c.intersection-then-takes_all_or_none.ensures.members t ∙
    otherwise_main c.args.schedule.now c.args.change.now.main c.args.change.now.rounds c.args.opponents c.args.teams t
    (sym c.takes_all_or_none.ensures ∙ c.if-takes_all_or_none.true) ∙
    otherwise_met c.args.schedule.now c.args.change.now.main c.args.change.now.rounds c.args.change.now.sides c.args.opponents c.args.teams
    t
    (sym (ap (λ s. c.args.opponents == s) (c.below.ensures.value ∙ ap all_numbers c.teams.ensures.number)) ∙ sym c.eq.ensures ∙
    c.if-eq.false)

pub returns-else-takes_all_or_none-clause-members : goal.returns-else-takes_all_or_none-clause-members
returns-else-takes_all_or_none-clause-members c = λ t.
    c.teams_around.ensures.members t ∙
    otherwise_around c.args.schedule.now c.args.change.now.main c.args.change.now.rounds c.args.opponents c.args.teams t
    (sym c.takes_all_or_none.ensures ∙ c.if-takes_all_or_none.false) ∙
    otherwise_met c.args.schedule.now c.args.change.now.main c.args.change.now.rounds c.args.change.now.sides c.args.opponents c.args.teams
    t
    (sym (ap (λ s. c.args.opponents == s) (c.below.ensures.value ∙ ap all_numbers c.teams.ensures.number)) ∙ sym c.eq.ensures ∙
    c.if-eq.false)
