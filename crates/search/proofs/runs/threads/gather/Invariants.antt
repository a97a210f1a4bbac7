use Rattle.std.proofs.Common.{◌≡◌, ◌+◌, ◌≤◌, ◌++◌, length, vec_len, vec_capacity}
use Rattle.std.specs.List.{All}
use Rattle.std.specs.Vec.Iter.{into_iter_items, into_iter_len}
use Rattle.search.specs.within.RunParts.{IsHandle}
use Rattle.search.proofs.Credited.{IsGathered}
use Rattle.search.proofs.runs.threads.gather.Given as goal

abbrev pub invariant-loop-handle : goal.invariant-loop-handle
invariant-loop-handle g l = record {
  handles : All (IsHandle l.run.context.gate.now l.run.context.scoring.league.now l.run.plan l.run.shared.now)
      (into_iter_items l.handle-iterator);
  left : into_iter_len l.handle-iterator ≡ length (into_iter_items l.handle-iterator);
  all : l.yielded ++ into_iter_items l.handle-iterator ≡ l.fn.handles.items;
  count : vec_len l.reports + into_iter_len l.handle-iterator ≡ vec_len l.fn.handles;
  room : vec_len l.fn.handles ≤ vec_capacity l.reports;
  gathered : IsGathered (g.G.Gate.heard l.run.context.gate.now) (g.G.Gate.was_reported l.run.context.gate.now) l.run.context.scoring.league.now
      l.run.plan l.run.shared.now l.fn.seat l.seat l.yielded l.reports.items;
}
