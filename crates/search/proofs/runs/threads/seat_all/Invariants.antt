use Rattle.std.proofs.Common.{◌≡◌, ◌+◌, ◌≤◌, ◌++◌, map, vec_len, vec_capacity}
use Rattle.std.specs.List.{range_with_len}
use Rattle.std.specs.Vec.Iter.{into_iter_items, into_iter_len}
use Rattle.search.specs.within.RunParts.{input_copy, input_worker}
use Rattle.search.proofs.Chains.{IsChain}
use Rattle.search.proofs.runs.threads.seat_all.Given as goal

abbrev pub invariant-loop-copy : goal.invariant-loop-copy
invariant-loop-copy g l = record {
  chain : IsChain l.shared l.fn.seat.setting l.inputs.items l.seat;
  count : vec_len l.inputs + into_iter_len l.copy-iterator ≡ vec_len l.fn.copies;
  room : vec_len l.fn.copies ≤ vec_capacity l.inputs;
  workers : map input_worker l.inputs.items ≡ range_with_len 0 (vec_len l.inputs);
  copies : map input_copy l.inputs.items ++ into_iter_items l.copy-iterator ≡ l.fn.copies.items;
}
