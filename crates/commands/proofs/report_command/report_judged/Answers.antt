use Rattle.std.proofs.Common.{refl}
use Rattle.std.proofs.lemmas.Result.{err_from_is_err_and}
use Rattle.std.specs.Str.Lines.{lines}
use Rattle.commands.proofs.Reports.{ends_reported}
use Rattle.commands.proofs.report_command.report_judged.Goals as goal

pub returns-in_err-remarks : goal.returns-in_err-remarks
returns-in_err-remarks g c = λ given beginning begins given_is.
    let p = err_from_is_err_and c.from_residual.result c.from_residual.ensures.1 in
    rw (p.1, p.2) refl

pub returns-in_err-prepared : goal.returns-in_err-prepared
returns-in_err-prepared g c = λ given beginning begins given_is.
    let p = err_from_is_err_and c.from_residual-in_err-prepared.result c.from_residual-in_err-prepared.ensures.1 in
    rw (p.1, p.2) refl

pub returns : goal.returns
returns g c = λ given beginning begins given_is.
    let whole = rw (
      c.in_ok-prepared.ensures.whole_is,
      c.in_ok-prepared.ensures.remarks_are,
      c.in_ok-remarks.ensures,
    ) at c.write_prepared-outcome.ensures.ok in
    let prefix = rw (
      c.in_ok-prepared.ensures.whole_is,
      c.in_ok-prepared.ensures.remarks_are,
      c.in_ok-remarks.ensures,
    ) at c.write_prepared-outcome.ensures.prefix in
    rw c.after_writing.ensures (ends_reported c.args.format c.args.text.now given beginning c.args.league.now (lines c.args.sheet.now)
    c.args.judged.now.schedule begins given_is c.requires.verdict g.W.Sink.held g.W.Sink.tally c.args.sink.now
    c.write_prepared-outcome.new.sink c.of-verdict.result c.write_prepared-outcome.result (rw c.is_feasible.ensures at c.of-verdict.ensures)
    whole prefix c.write_prepared-outcome.ensures.cause)
