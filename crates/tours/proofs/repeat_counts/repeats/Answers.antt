use Rattle.std.proofs.Common.{◌-◌, ◌∙◌, arith, rules}
use Rattle.std.proofs.lemmas.Bool.{lt-ltb}
use Rattle.league.specs.Sets.{has}
use Rattle.league.proofs.ForCallers.{sum_where_all}
use Rattle.fixtures.specs.Games.{round_count}
use Rattle.tours.specs.Repeats.{repeats_after, repeats}
use Rattle.tours.proofs.repeat_counts.repeats.Goals as goal

pub returns-clause-value : goal.returns-clause-value
unfolding repeats
returns-clause-value c =
    c.repeats_from.ensures.value ∙
    sum_where_all (round_count c.args.schedule.now.teams - 1) (has c.below-firsts.result) (repeats_after c.args.schedule.now)
    (λ r in_r. c.below-firsts.ensures.members r ∙ lt-ltb r _ (omega arith))

pub returns-clause-limit : goal.returns-clause-limit
returns-clause-limit c = search rules
