use Rattle.tours.proofs.stops.SetsInSeason.{has_cut}
use Rattle.tours.proofs.clip.rounds_in.Goals as goal

pub returns-clause-members : goal.returns-clause-members
returns-clause-members c = has_cut _ _ _ _ _ c.rounds.ensures.number c.below-all.ensures.members c.intersection.ensures.members
