use Rattle.board_texts.specs.PlayText.{best_line, closing_text}
use Rattle.text_lines.specs.Sheet.{sheet_of}
use Rattle.fixture_board.specs.History.{games_of, best_of}
use Rattle.byte_streams.proofs.Pieces.{Adds-stops, Adds-then, Adds-writes, Stops-more, Stops-writes}
use Rattle.fixture_board.proofs.ForCallers.{games_of_teams}
use Rattle.board_texts.proofs.play_text.write_closing.Goals as goal

pub write_sheet-requires : goal.write_sheet-requires
write_sheet-requires g c =
    rw (c.schedule.ensures.games, c.league.ensures) (games_of_teams c.args.board.now.league c.args.board.now.history)

pub returns-in_err-write_history : goal.returns-in_err-write_history
unfolding closing_text
returns-in_err-write_history g c =
    Stops-writes c.from_residual.ensures.0
    (Stops-more (best_line (best_of c.args.board.now.league c.args.board.now.history))
    (Stops-more (sheet_of (games_of c.args.board.now.league c.args.board.now.history) c.args.board.now.league)
    c.in_err-write_history.ensures.err))

pub returns-in_err-write_sheet : goal.returns-in_err-write_sheet
unfolding closing_text
returns-in_err-write_sheet g c =
    Stops-writes c.from_residual-in_err-write_sheet.ensures.0
    (Stops-more (best_line (best_of c.args.board.now.league c.args.board.now.history))
    (Adds-stops c.in_ok-write_history.ensures.ok (rw (c.schedule.ensures.games, c.league.ensures) at c.in_err-write_sheet.ensures.err)))

pub returns : goal.returns
unfolding closing_text
returns g c = Adds-writes (Adds-then c.in_ok-write_history.ensures.ok
    (rw (c.schedule.ensures.games, c.league.ensures) at c.in_ok-write_sheet.ensures.ok)) c.write_best.ensures
