use Rattle.std.proofs.Common.{nat_lt, ◌∙◌, ap}
use Rattle.rules.proofs.rows.MetPairs.{met_same, met_unless_twice}
use Rattle.rules.proofs.around.opponents_in.Goals as goal

pub returns-then-len-clause-members : goal.returns-then-len-clause-members
returns-then-len-clause-members c = λ t pair.
    c.met_in.ensures.members t pair ∙
    met_same c.args.schedule.now c.requires.round_robin c.args.team c.args.rounds c.below-season.result c.intersection-inside.result
    (λ r. c.below-season.ensures.members r ∙ ap (nat_lt r) c.rounds.ensures.number) c.intersection-inside.ensures.members t pair

pub returns-clause-members : goal.returns-clause-members
returns-clause-members c = λ t pair.
    met_unless_twice c.args.schedule.now c.requires.round_robin c.args.team c.args.rounds c.below-season.result c.difference-outside.result
    c.below.result c.met_twice_in.result c.difference.result
    (λ r. c.below-season.ensures.members r ∙ ap (nat_lt r) c.rounds.ensures.number) c.difference-outside.ensures.members
    (λ k. c.below.ensures.members k ∙ ap (nat_lt k) c.teams.ensures.number) c.difference.ensures.members t pair (c.met_twice_in.ensures t pair)
