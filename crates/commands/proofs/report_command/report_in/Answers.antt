use Rattle.std.proofs.Common.{◌≡◌, Some, Ok, option_map, ap, refl}
use Rattle.std.proofs.lemmas.Result.{err_from_is_err_and}
use Rattle.std.specs.Str.Lines.{lines}
use Rattle.schedule_csv.specs.Table.{schedule_lines}
use Rattle.commands.proofs.Reports.{ends_at_row}
use Rattle.commands.proofs.report_command.report_in.Goals as goal

pub returns : goal.returns
returns g c = λ beginning begins.
    let given_is : option_map (schedule_lines c.args.league.now) (option_map (λ text. lines text.now) c.args.sheet)
    ≡ Some (Ok (lines c.as_bytes.result.now)) = rw (c.in-Some.is, c.as_bytes.ensures) (ap Some c.in_ok-given.ensures) in
    c.report_lines.ensures _ beginning begins given_is

pub returns-in_err-given : goal.returns-in_err-given
returns-in_err-given g c = λ beginning begins.
    let p = err_from_is_err_and c.from_residual.result c.from_residual.ensures.1 in
    let given_is : option_map (λ text. lines text.now) c.args.sheet ≡ Some (lines c.in-Some.given.now) = rw c.in-Some.is refl in
    rw (p.1, p.2) (ends_at_row g.W.Sink.held g.W.Sink.tally c.args.sink.now c.args.format c.args.text.now
    (option_map (λ text. lines text.now) c.args.sheet) (lines c.in-Some.given.now) beginning c.args.league.now c.in_err-given.field-0.0
    begins given_is c.in_err-given.ensures)
