use Rattle.byte_streams.specs.Pieces.{pieces_below}
use Rattle.byte_streams.specs.Writing.{Adds}
use Rattle.text_lines.specs.Sheet.{game_text}
use Rattle.text_lines.proofs.sheets.write_games.Given as goal

abbrev pub invariant-loop-team : goal.invariant-loop-team
invariant-loop-team g l = Adds g.W.Sink.held g.W.Sink.tally l.initial.out l.out (pieces_below (game_text l.schedule l.round) l.team)
