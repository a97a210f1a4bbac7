use Rattle.std.proofs.Common.{◌+◌, ◌-◌, refl, ◌∙◌, ap}
use Rattle.league.specs.Sets.{has}
use Rattle.league.proofs.ForCallers.{sum_where_same}
use Rattle.rules.specs.Deviations.{deviation, over_in_windows}
use Rattle.rules.specs.within.Walked.{over_from_starts}
use Rattle.rules.proofs.counted.CountedRounds.{all_windows}
use Rattle.rules.proofs.classes.ca3.ca3.Goals as goal

pub returns : goal.returns
unfolding deviation
returns c =
    c.over_by_teams.ensures ∙
    sum_where_same c.args.schedule.now.teams (has c.args.games.now.teams) (has c.args.games.now.teams)
    (over_from_starts c.args.schedule.now c.args.games.now.side c.args.games.now.opponents c.args.window c.args.most c.below.result)
    (over_in_windows c.args.schedule.now c.args.games.now.side (has c.args.games.now.opponents) c.args.window c.args.most)
    (λ t below. refl)
    (λ t below is.
    all_windows c.args.schedule.now c.args.games.now.side c.args.games.now.opponents c.args.window c.args.most c.below.result _ t
    (ap (λ n. n + 1 - c.args.window) c.rounds.ensures.number) c.below.ensures.members)
