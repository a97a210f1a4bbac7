use Rattle.std.proofs.Common.{◌∙◌, nat_lt, ap, rules}
use Rattle.tours.proofs.balances.PhasedBalance.{unphased_of_all}
use Rattle.tours.proofs.unphased_pairs.unphased.Goals as goal

pub returns-clause-value : goal.returns-clause-value
returns-clause-value c =
    c.unphased_with.ensures.value ∙
    unphased_of_all c.args.schedule.now c.below-all.result (λ t. c.below-all.ensures.members t ∙ ap (nat_lt t) c.teams.ensures.number)

pub returns-clause-limit : goal.returns-clause-limit
returns-clause-limit c = search rules
