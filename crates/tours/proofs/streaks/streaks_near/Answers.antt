use Rattle.std.proofs.Common.{◌∙◌, rules}
use Rattle.league.specs.Sets.{has}
use Rattle.tours.specs.Parts.{touches_window}
use Rattle.tours.proofs.streaks_and_repeats.StreakStarts.{streaks_walked_part}
use Rattle.tours.proofs.streaks.streaks_near.Goals as goal

pub returns-clause-value : goal.returns-clause-value
unfolding touches_window
returns-clause-value c =
    c.streaks_from.ensures.value ∙
    streaks_walked_part c.args.schedule.now c.args.at_most c.teams_in-among.result c.starts_meeting-starts.result
    (has c.args.set) (has c.args.rounds)
    c.teams_in-among.ensures.members c.starts_meeting-starts.ensures.members

pub returns-clause-limit : goal.returns-clause-limit
returns-clause-limit c = search rules
