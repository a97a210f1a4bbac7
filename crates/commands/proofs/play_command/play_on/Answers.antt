use Rattle.std.proofs.Common.{option_map}
use Rattle.std.proofs.lemmas.Result.{err_from_is_err_and}
use Rattle.std.specs.Str.Lines.{lines}
use Rattle.board_texts.specs.PlayText.{play_text}
use Rattle.commands.specs.Play.{AnswersPlayOn}
use Rattle.commands.proofs.Endings.{answers_play, ends_refused, ends_written, plays_not}
use Rattle.commands.proofs.play_command.play_on.Goals as goal

pub returns-in_err-board : goal.returns-in_err-board
returns-in_err-board g c =
    let p = err_from_is_err_and c.from_residual-in_err-board.result c.from_residual-in_err-board.ensures.1 in
    let beginning = option_map (λ b. b.now) c.args.beginning in
    rw (p.1, p.2) (ends_refused g.W.Sink.held g.W.Sink.tally
    (AnswersPlayOn c.args.room c.args.league.now (lines c.args.script.now) beginning) c.args.sink.now (λ none. none) c.in_err-board.field-0.0
    (λ not_memory. plays_not c.args.room c.args.league.now (lines c.args.script.now) beginning c.in_ok-league.league
    c.in_ok-league.ensures.ok c.in_err-board.field-0.0 (c.in_err-board.ensures.fault not_memory)))

pub returns : goal.returns
returns g c =
    let script = lines c.args.script.now in
    let beginning = option_map (λ b. b.now) c.args.beginning in
    rw c.after_writing.ensures (ends_written g.W.Sink.held g.W.Sink.tally (AnswersPlayOn c.args.room c.args.league.now script beginning)
    (play_text c.in_ok-league.league c.args.room script) c.args.sink.now c.play_script.new.sink c.play_script.result
    (answers_play c.args.room c.args.league.now script beginning c.in_ok-league.league c.in_ok-league.ensures.ok
    c.in_ok-league.ensures.limits c.in_ok-board.ensures.within)
    (rw c.in_ok-board.ensures.ok at c.play_script.ensures.ok) (rw c.in_ok-board.ensures.ok at c.play_script.ensures.prefix)
    c.play_script.ensures.cause)
