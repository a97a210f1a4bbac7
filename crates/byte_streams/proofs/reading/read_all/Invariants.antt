use Rattle.std.proofs.Common.{◌≡◌, ◌+◌, ◌≤◌, vec_len}
use Rattle.std.specs.Io.KnownBytes.{Consumes}
use Rattle.byte_streams.specs.Tally.{NotBelow, RisesBy}
use Rattle.byte_streams.proofs.reading.read_all.Given as goal

abbrev pub invariant-loop-count : goal.invariant-loop-count
invariant-loop-count g l = record {
  taken : Consumes (g.R.Source.left l.initial.source) (g.R.Source.left l.source) l.text.items;
  within : vec_len l.text ≤ 4194304;
  counts : NotBelow (g.R.Source.tally l.initial.source) (g.R.Source.tally l.source);
  reads : RisesBy l.count (g.R.Source.tally l.initial.source).calls (g.R.Source.tally l.source).calls;
  calls : (g.R.Source.tally l.source).calls ≤ (g.R.Source.tally l.initial.source).calls + l.count;
  failed : (g.R.Source.tally l.source).failed ≤ (g.R.Source.tally l.initial.source).failed;
  empty : (g.R.Source.tally l.source).empty ≡ (g.R.Source.tally l.initial.source).empty;
}
