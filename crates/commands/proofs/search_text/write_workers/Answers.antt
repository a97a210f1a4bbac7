use Rattle.std.proofs.Common.{◌≡◌, [], drop, arith}
use Rattle.std.proofs.lemmas.List.{drop_all}
use Rattle.byte_streams.proofs.Pieces.{Stops-writes}
use Rattle.text_lines.proofs.ForCallers.{none_added, one_added, one_stopped, all_added}
use Rattle.commands.proofs.Reporting.{workers_from}
use Rattle.commands.proofs.search_text.write_workers.Goals as goal

pub loop-i-init : goal.loop-i-init
loop-i-init g c = none_added _ _

pub loop-i-preserved : goal.loop-i-preserved
loop-i-preserved g c =
    let next = workers_from c.args.reports.now c.loop-i.i c.at-report.result (omega (arith, c.len-i-end.ensures))
    (c.at-report.ensures c.at-report.result) in
    one_added _ _ _ (rw next at c.loop-i.invariant) c.in_ok-write_worker.ensures.ok

pub returns-in_err-write_worker : goal.returns-in_err-write_worker
returns-in_err-write_worker g c =
    let next = workers_from c.args.reports.now c.loop-i.i c.at-report.result (omega (arith, c.len-i-end.ensures))
    (c.at-report.ensures c.at-report.result) in
    Stops-writes c.from_residual.ensures.0 (one_stopped _ _ _ (rw next at c.loop-i.invariant) c.in_err-write_worker.ensures.err)

pub returns : goal.returns
returns g c =
    let none : drop c.loop-i.i c.args.reports.now ≡ [] = drop_all c.loop-i.i c.args.reports.now (omega (arith, c.len-i-end.ensures)) in
    record { ok = all_added _ (rw none at c.loop-i.invariant); err = tt }
