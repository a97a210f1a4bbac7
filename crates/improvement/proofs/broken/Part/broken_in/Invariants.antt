use Rattle.std.proofs.Common.{◌≡◌, ◌≤◌, take}
use Rattle.improvement.specs.Broken.{broken_in}
use Rattle.improvement.proofs.broken.Part.broken_in.Given as goal

abbrev pub invariant-loop-best : goal.invariant-loop-best
invariant-loop-best l = record {
  so_far : l.broken ≡ broken_in l.league l.self (take l.best-index l.chains.bests.items);
  few : l.broken ≤ l.best-index;
}
