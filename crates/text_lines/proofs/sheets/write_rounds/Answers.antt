use Rattle.byte_streams.proofs.Pieces.{Adds-piece, Stops-in_pieces, Stops-writes}
use Rattle.text_lines.specs.Sheet.{round_line}
use Rattle.text_lines.proofs.sheets.write_rounds.Goals as goal

pub loop-round-preserved : goal.loop-round-preserved
loop-round-preserved g c = Adds-piece
    (round_line c.args.schedule.now) c.loop-round.round c.loop-round.invariant c.in_ok-write_round.ensures.ok

pub returns-in_err-write_round : goal.returns-in_err-write_round
returns-in_err-write_round g c =
    Stops-writes c.from_residual.ensures.0
    (Stops-in_pieces (round_line c.args.schedule.now) c.loop-round.round _
    (rw c.rounds-round-end.ensures.number at c.loop-round-test.true) c.loop-round.invariant c.in_err-write_round.ensures.err)
