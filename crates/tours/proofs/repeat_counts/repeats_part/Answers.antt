use Rattle.std.proofs.Common.{◌+◌, ◌-◌, ◌||◌, refl, ◌∙◌, rules}
use Rattle.league.specs.Sets.{has}
use Rattle.league.proofs.ForCallers.{sum_where_same}
use Rattle.fixtures.specs.Games.{round_count}
use Rattle.tours.specs.Repeats.{repeats_after}
use Rattle.tours.specs.Parts.{repeats_part}
use Rattle.tours.proofs.repeat_counts.repeats_part.Goals as goal

pub returns-clause-value : goal.returns-clause-value
unfolding repeats_part
returns-clause-value c =
    rw (← c.touched.view_is)
    (c.repeats_from.ensures.value ∙
    sum_where_same (round_count c.args.schedule.now.teams - 1) (has c.rounds_next_to-firsts.result)
    (λ r. has c.touched.inside.rounds r || has c.touched.inside.rounds (r + 1))
    (repeats_after c.args.schedule.now) (repeats_after c.args.schedule.now) c.rounds_next_to-firsts.ensures.members (λ r in_r touched. refl))

pub returns-clause-limit : goal.returns-clause-limit
returns-clause-limit c = search rules
