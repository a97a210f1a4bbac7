use Rattle.tours.proofs.exchanged_legs.OwnLegs.{are_flips}
use Rattle.tours.proofs.teams_delta.own.flips.Goals as goal

pub returns-clause-members : goal.returns-clause-members
returns-clause-members c =
    are_flips c.args.schedule.now c.args.inner c.args.team c.home_rounds-home.result c.like_next_below-like_next.result
    c.difference.result c.rounds.result c.rounds.ensures.number c.home_rounds-home.ensures.members
    c.like_next_below-like_next.ensures.members c.difference.ensures.members
