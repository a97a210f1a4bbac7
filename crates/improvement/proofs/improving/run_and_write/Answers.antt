use Rattle.std.proofs.lemmas.Result.{err_from_is_err_and}
use Rattle.improvement.proofs.UnderWay.{sent_none, under_way_none}
use Rattle.improvement.proofs.improving.run_and_write.Goals as goal

pub returns-in_err-reported : goal.returns-in_err-reported
returns-in_err-reported g c =
    let s = c.args.setting in
    let p = err_from_is_err_and c.from_residual.result c.from_residual.ensures.1 in
    rw (p.1, p.2) (sent_none g.W.Sink.held g.W.Sink.tally s.start.now s.plan c.args.out.now c.requires.none)

pub run_line-requires-clause-under_way : goal.run_line-requires-clause-under_way
run_line-requires-clause-under_way g c = λ κs within.
    let s = c.args.setting in
    under_way_none g.W.Sink.held g.W.Sink.tally s.start.now s.plan c.args.out.now c.new-line.result c.in_ok-reported.reported c.requires.none
    c.new-line.ensures.line c.new-line.ensures.left c.in_ok-reported.ensures
