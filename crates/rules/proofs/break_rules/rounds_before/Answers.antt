use Rattle.std.proofs.Common.{◌-◌, ◌&&◌, ap, arith, ◌∙◌}
use Rattle.std.proofs.lemmas.Bool.{lt-ltb}
use Rattle.league.specs.Sets.{has}
use Rattle.rules.proofs.break_rules.rounds_before.Goals as goal

pub returns-clause-members : goal.returns-clause-members
returns-clause-members c = λ r below.
    c.intersection.ensures.members r ∙
    ap (λ b. b && has c.before-2.result r)
    (c.below.ensures.members r ∙ lt-ltb r (c.rounds.result - 1) (omega (arith, c.rounds.ensures.number))) ∙
    c.before-2.ensures r (omega (arith, c.rounds.ensures.number, c.rounds.ensures.most))
