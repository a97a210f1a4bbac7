use Rattle.std.specs.Prelude.{slice_index}
use Rattle.league.specs.League.{distance}
use Rattle.tours.specs.Tours.{tour, leg}
use Rattle.tours.proofs.exchanged_legs.RoundsDelta.{neighbours_before, neighbours_after}
use Rattle.tours.proofs.rounds_delta.legs_of_neighbours.Goals as goal

pub returns-clause-before : goal.returns-clause-before
unfolding leg
returns-clause-before c =
    cc (neighbours_before (λ a b. distance c.args.league.now (slice_index (tour c.args.schedule.now c.args.team) a)
    (slice_index (tour c.args.schedule.now c.args.team) b)) c.args.k c.args.l c.requires.next)

pub returns-clause-after : goal.returns-clause-after
returns-clause-after c =
    cc (neighbours_after (λ a b. distance c.args.league.now (slice_index (tour c.args.schedule.now c.args.team) a)
    (slice_index (tour c.args.schedule.now c.args.team) b)) c.args.k c.args.l c.requires.next)
