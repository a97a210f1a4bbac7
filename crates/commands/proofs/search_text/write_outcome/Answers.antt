use Rattle.board_texts.specs.SearchText.{found_text}
use Rattle.byte_streams.proofs.Pieces.{Adds-stops, Adds-then, Adds-writes, Stops-more, Stops-writes}
use Rattle.commands.specs.Find.{search_text, worker_lines}
use Rattle.commands.proofs.search_text.write_outcome.Goals as goal

pub returns-in_err-write_plan : goal.returns-in_err-write_plan
unfolding search_text
returns-in_err-write_plan g c =
    let o = c.args.outcome.now in
    Stops-writes c.from_residual.ensures.0
    (Stops-more (found_text o.board.league o.board.history) (Stops-more (worker_lines 1 o.reports) c.in_err-write_plan.ensures.err))

pub returns-in_err-write_workers : goal.returns-in_err-write_workers
unfolding search_text
returns-in_err-write_workers g c =
    let o = c.args.outcome.now in
    Stops-writes c.from_residual-in_err-write_workers.ensures.0
    (Stops-more (found_text o.board.league o.board.history)
    (Adds-stops c.in_ok-write_plan.ensures.ok c.in_err-write_workers.ensures.err))

pub returns : goal.returns
unfolding search_text
returns g c = Adds-writes (Adds-then c.in_ok-write_plan.ensures.ok c.in_ok-write_workers.ensures.ok) c.write_found.ensures
