use Rattle.std.proofs.Common.{◌+◌, ◌-◌, ◌*◌, ◌<◌, ◌≤◌, ◌≡◌, length}
use Rattle.byte_streams.specs.Sending.{AppendsAllBut}
use Rattle.byte_streams.specs.Tally.{NotBelow, RisesBy}
use Rattle.byte_streams.proofs.writing.write_all.Given as goal

abbrev pub invariant-loop-rest : goal.invariant-loop-rest
invariant-loop-rest g l = record {
  progress : AppendsAllBut (g.W.Sink.held l.initial.sink) (g.W.Sink.held l.sink) l.fn.text l.rest;
  counts : NotBelow (g.W.Sink.tally l.initial.sink) (g.W.Sink.tally l.sink);
  few : l.interrupted < 1000;
  still : l.interrupted ≤ 1000 * length l.rest;
  in_a_row : l.interrupted ≤ (g.W.Sink.tally l.sink).again_in_a_row;
  interruptions : RisesBy l.interrupted (g.W.Sink.tally l.initial.sink).again (g.W.Sink.tally l.sink).again;
  calls : (g.W.Sink.tally l.sink).calls + 1000 * length l.rest ≤
      (g.W.Sink.tally l.initial.sink).calls + 1000 * length l.fn.text + l.interrupted;
  none_failed : (g.W.Sink.tally l.sink).failed + (g.W.Sink.tally l.sink).empty
      ≡ (g.W.Sink.tally l.initial.sink).failed + (g.W.Sink.tally l.initial.sink).empty;
}

abbrev pub decreases-loop-rest : goal.decreases-loop-rest
decreases-loop-rest g l = 1000 * length l.rest + (1000 - l.interrupted)
