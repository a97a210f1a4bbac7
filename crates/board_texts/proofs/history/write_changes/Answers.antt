use Rattle.std.proofs.Common.{◌≡◌, [], drop, arith}
use Rattle.std.proofs.lemmas.List.{drop_all}
use Rattle.byte_streams.proofs.Pieces.{Stops-writes}
use Rattle.text_lines.proofs.ForCallers.{none_added, one_added, one_stopped, all_added}
use Rattle.board_texts.proofs.HistoryLines.{lines_from}
use Rattle.board_texts.proofs.history.write_changes.Goals as goal

pub loop-i-init : goal.loop-i-init
loop-i-init g c = none_added _ _

pub loop-i-preserved : goal.loop-i-preserved
loop-i-preserved g c =
    let h = c.args.board.now.history in
    let next = lines_from h c.loop-i.i c.entry.result (omega (arith, c.version-i-end.ensures.length)) (c.entry.ensures c.entry.result) in
    one_added _ _ _ (rw next at c.loop-i.invariant) c.in_ok-write_change.ensures.ok

pub returns-in_err-write_change : goal.returns-in_err-write_change
returns-in_err-write_change g c =
    let h = c.args.board.now.history in
    let next = lines_from h c.loop-i.i c.entry.result (omega (arith, c.version-i-end.ensures.length)) (c.entry.ensures c.entry.result) in
    Stops-writes c.from_residual.ensures.0 (one_stopped _ _ _ (rw next at c.loop-i.invariant) c.in_err-write_change.ensures.err)

pub returns : goal.returns
returns g c =
    let h = c.args.board.now.history in
    let none : drop c.loop-i.i h ≡ [] = drop_all c.loop-i.i h (omega (arith, c.version-i-end.ensures.length)) in
    record { ok = all_added _ (rw none at c.loop-i.invariant); err = tt }
