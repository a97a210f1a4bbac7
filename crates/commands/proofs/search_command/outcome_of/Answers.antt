use Rattle.std.proofs.Common.{◌≡◌, []}
use Rattle.std.proofs.lemmas.Result.{err_from_is_err_and}
use Rattle.fixture_board.specs.Record.{book}
use Rattle.commands.proofs.Endings.{finds_not, run_fails}
use Rattle.commands.proofs.search_command.outcome_of.Goals as goal

pub returns-in_err-board-clause-fault : goal.returns-in_err-board-clause-fault
returns-in_err-board-clause-fault g c =
    let p = err_from_is_err_and c.from_residual-in_err-board.result c.from_residual-in_err-board.ensures.1 in
    rw (p.1, p.2) (λ not_memory bytes beginning begins. finds_not c.args.room c.args.plan bytes beginning c.args.league.now begins
    c.in_err-board.field-0.0 (c.in_err-board.ensures.fault not_memory))

pub returns-in-Err-clause-fault : goal.returns-in-Err-clause-fault
returns-in-Err-clause-fault g c =
    let board_is : c.in_ok-board.board ≡ book c.args.league.now c.args.room [] = rw c.in_ok-duplicate.ensures at c.in_ok-board.ensures.ok in
    rw c.from.ensures (λ not_memory bytes beginning begins. run_fails c.args.room c.args.plan bytes beginning c.args.league.now begins
    c.in_ok-board.ensures.within c.in-Err.refused.why c.in-Err.refused.board (rw board_is at (c.in-Err.ensures).refused) not_memory)

pub returns-in-Ok-clause-done : goal.returns-in-Ok-clause-done
returns-in-Ok-clause-done g c =
    let board_is : c.in_ok-board.board ≡ book c.args.league.now c.args.room [] = rw c.in_ok-duplicate.ensures at c.in_ok-board.ensures.ok in
    rw board_is at (c.in-Ok.ensures).done
