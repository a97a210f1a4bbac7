use Rattle.std.proofs.Common.{◌∙◌, arith, rules}
use Rattle.std.proofs.lemmas.Bool.{lt-ltb}
use Rattle.tours.proofs.streaks_and_repeats.StreakStarts.{streaks_walked_all}
use Rattle.tours.proofs.streaks.runs_over.Goals as goal

pub returns-clause-value : goal.returns-clause-value
returns-clause-value c =
    rw (← c.at_most-at_most.ensures.value)
    (c.streaks_from.ensures.value ∙
    streaks_walked_all c.args.schedule.now c.at_most-at_most.result c.below-all.result c.below-starts.result
    (λ t in_t. c.below-all.ensures.members t ∙ lt-ltb t _ (omega arith))
    (λ f in_f. c.below-starts.ensures.members f ∙ lt-ltb f _ (omega arith)))

pub returns-clause-limit : goal.returns-clause-limit
returns-clause-limit c = search rules
