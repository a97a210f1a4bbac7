use Rattle.byte_streams.specs.Pieces.{pieces_below}
use Rattle.byte_streams.specs.Writing.{Adds}
use Rattle.text_lines.specs.Sheet.{letter_of}
use Rattle.text_lines.proofs.sheets.write_pattern.Given as goal

abbrev pub invariant-loop-round : goal.invariant-loop-round
invariant-loop-round g l = Adds g.W.Sink.held g.W.Sink.tally l.initial.out l.out (pieces_below (letter_of l.schedule l.team) l.round)
