use Rattle.byte_streams.proofs.Pieces.{Adds-piece, Stops-in_pieces, Stops-writes}
use Rattle.text_lines.specs.Sheet.{letter_of}
use Rattle.text_lines.proofs.sheets.write_pattern.Goals as goal

pub loop-round-preserved : goal.loop-round-preserved
loop-round-preserved g c = Adds-piece (letter_of c.args.schedule.now c.args.team) c.loop-round.round c.loop-round.invariant
    (rw (c.place_letter.ensures, c.game_at-game.ensures.value) at c.in_ok-write.ensures.writes.ok)

pub returns-in_err-write : goal.returns-in_err-write
returns-in_err-write g c =
    Stops-writes c.from_residual.ensures.0
    (Stops-in_pieces (letter_of c.args.schedule.now c.args.team) c.loop-round.round _
    (rw c.rounds-round-end.ensures.number at c.loop-round-test.true) c.loop-round.invariant
    (rw (c.place_letter.ensures, c.game_at-game.ensures.value) at c.in_err-write.ensures.writes.err))
