use Rattle.byte_streams.proofs.Pieces.{Adds-piece, Stops-in_pieces, Stops-writes}
use Rattle.report_text.specs.within.CostText.{moved_lines}
use Rattle.report_text.proofs.leaving.write_all_moved.Goals as goal

pub loop-home-preserved : goal.loop-home-preserved
loop-home-preserved g c =
    Adds-piece (moved_lines c.args.league.now c.args.schedule.now) c.loop-home.home c.loop-home.invariant c.in_ok-write_moved_of.ensures.ok

pub returns-in_err-write_moved_of : goal.returns-in_err-write_moved_of
returns-in_err-write_moved_of g c =
    Stops-writes c.from_residual.ensures.0
    (Stops-in_pieces (moved_lines c.args.league.now c.args.schedule.now) c.loop-home.home _
    (rw c.teams-home-end.ensures.number at c.loop-home-test.true) c.loop-home.invariant c.in_err-write_moved_of.ensures.err)
