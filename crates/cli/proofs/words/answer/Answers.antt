use Rattle.std.proofs.Common.{map, string_bytes}
use Rattle.clap.specs.Words.{subcommand_of}
use Rattle.options.specs.CommandLine.{program}
use Rattle.cli.proofs.Requests.{at_fault, done, near_of_request, on_files}
use Rattle.cli.proofs.words.answer.Goals as goal

pub returns-clause-done : goal.returns-clause-done
returns-clause-done g c = λ job files title kept none.
    done g.R.Source.left g.R.Source.tally g.W.Sink.held g.W.Sink.tally c.args.source c.args.sink.now _ _ _ _ _ c.respond.new.sink _
    c.args-request.result c.args-request.ensures.fault c.args-request.ensures.job c.args-request.ensures.files
    c.args-request.ensures.title c.args-request.ensures.beginning c.respond.ensures.done c.respond.ensures.status c.respond.ensures.quiet job files title kept none

pub returns-clause-on_files : goal.returns-clause-on_files
returns-clause-on_files g c = λ job files title kept none.
    on_files g.R.Source.left g.R.Source.tally g.W.Sink.held g.W.Sink.tally c.args.source c.args.sink.now _ _ _ _ _ c.respond.new.sink _
    c.args-request.result c.args-request.ensures.fault c.args-request.ensures.job c.args-request.ensures.files
    c.args-request.ensures.title c.args-request.ensures.beginning c.respond.ensures.on_files c.respond.ensures.status c.respond.ensures.quiet job files title kept none

pub returns-clause-fault : goal.returns-clause-fault
returns-clause-fault g c = λ kind is. at_fault _ kind _ c.args-request.result c.args-request.ensures.fault c.respond.ensures.status is

pub respond-requires-clause-near : goal.respond-requires-clause-near
respond-requires-clause-near g c κs within = near_of_request (subcommand_of program (map string_bytes c.args.words.now)) c.args-request.result
    c.args-request.ensures.beginning
