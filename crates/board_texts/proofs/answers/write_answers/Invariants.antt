use Rattle.std.proofs.Common.{◌≡◌, length}
use Rattle.board_texts.proofs.Answering.{IsAnsweredTo, IsLedTo}
use Rattle.board_texts.proofs.answers.write_answers.Given as goal

abbrev pub invariant-loop-line : goal.invariant-loop-line
invariant-loop-line g l = record {
  answered : IsAnsweredTo g.W.Sink.held g.W.Sink.tally l.initial.out l.out l.initial.board.league l.initial.board.room l.script l.rest
      l.board.history l.slack l.number;
  led : IsLedTo l.initial.board.league l.initial.board.room l.script l.rest l.board.history l.slack;
  same_league : l.board.league ≡ l.initial.board.league;
  same_room : l.board.room ≡ l.initial.board.room;
}

abbrev pub decreases-loop-line : goal.decreases-loop-line
decreases-loop-line g l = length l.rest
