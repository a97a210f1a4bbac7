use Rattle.std.proofs.Common.{Err, option_map, string_bytes}
use Rattle.commands.specs.within.Fault.{of_reading}
use Rattle.cli.proofs.Inputs.{unread}
use Rattle.cli.proofs.words.respond_on_input.Goals as goal

pub returns-in-Err : goal.returns-in-Err
returns-in-Err g c = record {
  outcome = Err (of_reading c.in-Err.fault);
  source_after = c.read_all.new.source;
  ends = unread g.R.Source.left g.R.Source.tally g.W.Sink.held g.W.Sink.tally (option_map string_bytes c.args.request.now.title) c.args.request.now.job c.args.source c.read_all.new.source
      c.read_all.ensures.calls c.args.sink.now c.read_all.result c.in-Err.fault c.in-Err.is c.read_all.ensures.too_long
      c.read_all.ensures.read c.read_all.ensures.failed;
  verdict = tt;
  end = tt;
  status_is = c.failure.ensures;
}
