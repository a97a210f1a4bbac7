use Rattle.std.proofs.Common.{◌≡◌, ◌+◌, ◌≤◌, ◌++◌, length, map, vec_len, vec_capacity}
use Rattle.std.specs.List.{All}
use Rattle.std.specs.Vec.Iter.{into_iter_items, into_iter_len}
use Rattle.search.specs.within.RunParts.{IsHandle, IsScoringFor, IsWorkerInput, handle_input}
use Rattle.search.proofs.runs.threads.start_all.Given as goal

abbrev pub invariant-loop-input : goal.invariant-loop-input
invariant-loop-input g l = record {
  inputs : All (IsWorkerInput l.run.shared.now) (into_iter_items l.input-iterator);
  scoring : All (IsScoringFor l.run.context.scoring.of_boards l.run.context.scoring.league.now) (into_iter_items l.input-iterator);
  left : into_iter_len l.input-iterator ≡ length (into_iter_items l.input-iterator);
  handles : All (IsHandle l.run.context.gate.now l.run.context.scoring.league.now l.run.plan l.run.shared.now) l.handles.items;
  count : vec_len l.handles + into_iter_len l.input-iterator ≡ vec_len l.fn.inputs;
  room : vec_len l.fn.inputs ≤ vec_capacity l.handles;
  each : map handle_input l.handles.items ++ into_iter_items l.input-iterator ≡ l.fn.inputs.items;
}
