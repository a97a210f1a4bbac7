use Rattle.byte_streams.proofs.Pieces.{Adds-piece, Stops-in_pieces, Stops-writes}
use Rattle.report_text.specs.within.CostText.{moved_line}
use Rattle.report_text.proofs.leaving.write_moved_of.Goals as goal

pub loop-away-preserved : goal.loop-away-preserved
loop-away-preserved g c =
    Adds-piece (moved_line c.args.league.now c.args.schedule.now c.args.home) c.loop-away.away c.loop-away.invariant c.in_ok-write_moved_game.ensures.ok

pub returns-in_err-write_moved_game : goal.returns-in_err-write_moved_game
returns-in_err-write_moved_game g c =
    Stops-writes c.from_residual.ensures.0
    (Stops-in_pieces (moved_line c.args.league.now c.args.schedule.now c.args.home) c.loop-away.away _
    (rw c.teams-away-end.ensures.number at c.loop-away-test.true) c.loop-away.invariant c.in_err-write_moved_game.ensures.err)
