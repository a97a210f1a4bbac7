use Rattle.std.proofs.Common.{◌≡◌, ◌≤◌, vec_len, vec_capacity}
use Rattle.std.specs.List.{All}
use Rattle.search.specs.within.RunParts.{IsSized}
use Rattle.search.proofs.runs.buffers.RunBuffers.new.Given as goal

abbrev pub invariant-loop : goal.invariant-loop
invariant-loop g l = record {
  many : vec_len l.copies ≡ l.counter;
  room : l.count ≤ vec_capacity l.copies;
  sized : All (IsSized l.schedule.teams) l.copies.items;
}
