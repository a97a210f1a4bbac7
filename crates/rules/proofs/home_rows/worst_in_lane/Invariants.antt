use Rattle.std.proofs.Common.{◌≡◌, ◌+◌, ◌*◌}
use Rattle.rules.specs.Deviations.{largest_below}
use Rattle.rules.specs.within.Walked.{apart_in}
use Rattle.rules.proofs.home_rows.worst_in_lane.Given as goal

abbrev pub invariant-loop-chunk : goal.invariant-loop-chunk
invariant-loop-chunk l = l.largest ≡ largest_below l.chunk (λ chunk. apart_in l.mask l.first l.second (chunk * 16 + l.lane))
