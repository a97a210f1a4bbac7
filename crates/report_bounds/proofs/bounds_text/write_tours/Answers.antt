use Rattle.byte_streams.proofs.Pieces.{Adds-piece, Stops-in_pieces, Stops-writes}
use Rattle.report_bounds.specs.BoundsText.{tour_bound_line}
use Rattle.report_bounds.proofs.bounds_text.write_tours.Goals as goal

pub loop-team-preserved : goal.loop-team-preserved
loop-team-preserved g c =
    Adds-piece (tour_bound_line c.args.tours.now) c.loop-team.team c.loop-team.invariant c.in_ok-write_tour.ensures.ok

pub returns-in_err-write_tour : goal.returns-in_err-write_tour
returns-in_err-write_tour g c =
    Stops-writes c.from_residual.ensures.0
    (Stops-in_pieces (tour_bound_line c.args.tours.now) c.loop-team.team _ c.loop-team-test.true c.loop-team.invariant
    c.in_err-write_tour.ensures.err)
