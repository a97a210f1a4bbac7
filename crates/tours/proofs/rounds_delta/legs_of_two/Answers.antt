use Rattle.std.specs.Prelude.{slice_index}
use Rattle.league.specs.League.{distance}
use Rattle.tours.specs.Tours.{tour, leg}
use Rattle.tours.proofs.exchanged_legs.RoundsDelta.{two_before, two_after}
use Rattle.tours.proofs.rounds_delta.legs_of_two.Goals as goal

pub returns-clause-before : goal.returns-clause-before
unfolding leg
returns-clause-before c =
    cc (two_before (λ a b. distance c.args.league.now (slice_index (tour c.args.schedule.now c.args.team) a)
    (slice_index (tour c.args.schedule.now c.args.team) b)) c.args.k c.args.l)

pub returns-clause-after : goal.returns-clause-after
returns-clause-after c =
    cc (two_after (λ a b. distance c.args.league.now (slice_index (tour c.args.schedule.now c.args.team) a)
    (slice_index (tour c.args.schedule.now c.args.team) b)) c.args.k c.args.l c.requires.apart)
