use Rattle.std.proofs.Common.{◌<◌, sym, subst, arith, rules}
use Rattle.std.proofs.lemmas.Grind.{common_steps}
use Rattle.costs.specs.declared.cost.Cost.{Cost}
use Rattle.costs.specs.Costs.{cost_of, score_of, score_limit}
use Rattle.costs.proofs.Scores.{score_below}
use Rattle.costs.proofs.whole_cost.cost_of.Goals as goal

pub returns-clause-value : goal.returns-clause-value
unfolding cost_of
returns-clause-value c = grind (arith, common_steps)

pub returns-clause-small : goal.returns-clause-small
returns-clause-small c =
    subst (λ (cost : Cost). score_of c.args.league.now cost < score_limit) (sym (returns-clause-value c))
    (score_below c.args.league.now c.args.schedule.now c.teams.ensures.limits (sym c.requires))

pub returns-clause-limits : goal.returns-clause-limits
returns-clause-limits c = search rules
