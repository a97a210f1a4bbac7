use Rattle.std.proofs.Common.{None}
use Rattle.std.proofs.lemmas.Result.{err_from_is_err_and}
use Rattle.commands.specs.Find.{AnswersFindOn}
use Rattle.commands.proofs.Endings.{ends_found, ends_refused}
use Rattle.commands.proofs.search_command.find_in.Goals as goal

pub returns-in_err-outcome : goal.returns-in_err-outcome
returns-in_err-outcome g c = λ bytes beginning begins.
    let p = err_from_is_err_and c.from_residual.result c.from_residual.ensures.1 in
    rw (p.1, p.2) (ends_refused g.W.Sink.held g.W.Sink.tally (AnswersFindOn c.args.room c.args.plan None bytes beginning) c.args.sink.now
    (λ none. none) c.in_err-outcome.field-0.0 (λ not_memory. c.in_err-outcome.ensures.fault not_memory bytes beginning begins))

pub returns : goal.returns
returns g c = λ bytes beginning begins.
    rw c.after_writing.ensures (ends_found c.args.room c.args.plan bytes beginning c.args.league.now begins c.in_ok-outcome.ensures.room
    g.W.Sink.held g.W.Sink.tally c.args.sink.now c.search_report.new.sink c.in_ok-outcome.outcome c.of-end.result c.search_report.result
    c.requires c.in_ok-outcome.ensures.done c.of-end.ensures c.search_report.ensures.ok c.search_report.ensures.prefix
    c.search_report.ensures.cause)
