use Rattle.std.proofs.Common.{ℕ, ◌-◌, ◌∙◌, ap}
use Rattle.tours.proofs.stops.SetsInSeason.{has_cut, has_two}
use Rattle.tours.proofs.clip.rounds_next_to.Goals as goal

pub returns-clause-members : goal.returns-clause-members
returns-clause-members c = λ r in_r.
    has_cut _ _ _ _ _ (ap (λ (x : ℕ). x - 1) c.rounds.ensures.number) c.below-all.ensures.members
    c.intersection.ensures.members r in_r ∙ c.starts_meeting-starts.ensures.members r ∙ has_two c.args.set r
