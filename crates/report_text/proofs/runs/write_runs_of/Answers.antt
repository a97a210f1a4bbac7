use Rattle.byte_streams.proofs.Pieces.{Adds-piece, Stops-in_pieces, Stops-writes}
use Rattle.report_text.specs.within.CostText.{run_line}
use Rattle.report_text.specs.Runs.{ended_streak, is_over}
use Rattle.report_text.proofs.runs.write_runs_of.Goals as goal

pub loop-round-preserved : goal.loop-round-preserved
loop-round-preserved g c =
    Adds-piece
    (λ round.
    run_line c.args.schedule.now c.args.at_most c.args.team round
    (ended_streak (is_over c.args.schedule.now c.args.at_most c.args.team) round))
    c.loop-round.round c.loop-round.invariant (rw c.windows_ended-windows.ensures.windows at c.in_ok-write_run.ensures.ok)

pub returns-in_err-write_run : goal.returns-in_err-write_run
returns-in_err-write_run g c =
    Stops-writes c.from_residual.ensures.0
    (Stops-in_pieces
    (λ round.
    run_line c.args.schedule.now c.args.at_most c.args.team round
    (ended_streak (is_over c.args.schedule.now c.args.at_most c.args.team) round))
    c.loop-round.round _ (rw c.rounds-round-end.ensures.number at c.loop-round-test.true) c.loop-round.invariant
    (rw c.windows_ended-windows.ensures.windows at c.in_err-write_run.ensures.err))
