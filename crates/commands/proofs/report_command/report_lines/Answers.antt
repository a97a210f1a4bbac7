use Rattle.std.proofs.Common.{refl}
use Rattle.std.proofs.lemmas.Result.{err_from_is_err_and}
use Rattle.commands.proofs.report_command.report_lines.Goals as goal

pub returns-in_err-judged : goal.returns-in_err-judged
returns-in_err-judged g c = λ given beginning begins given_is.
    let p = err_from_is_err_and c.from_residual.result c.from_residual.ensures.1 in
    rw (p.1, p.2) refl

pub returns : goal.returns
returns g c = c.report_judged.ensures
