use Rattle.std.proofs.lemmas.Result.{err_from_is_err_and}
use Rattle.improvement.proofs.Ends.{refused}
use Rattle.improvement.proofs.improving.improve.Goals as goal

pub returns-in_err-start : goal.returns-in_err-start
returns-in_err-start g c =
    let p = err_from_is_err_and c.from_residual.result c.from_residual.ensures.1 in
    rw (p.1, p.2) (refused g.W.Sink.held g.W.Sink.tally c.args.league c.args.plan c.args.sink.now c.in_err-start.field-0.0
    c.in_err-start.ensures.refused)

pub returns : goal.returns
returns g c = rw c.in_ok-start.ensures.board at c.improve_from.ensures
