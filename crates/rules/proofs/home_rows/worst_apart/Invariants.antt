use Rattle.std.proofs.Common.{◌≡◌, ◌+◌, ◌*◌}
use Rattle.rules.specs.Deviations.{largest_below}
use Rattle.rules.specs.within.Walked.{apart_in}
use Rattle.rules.proofs.home_rows.worst_apart.Given as goal

abbrev pub invariant-loop-lane : goal.invariant-loop-lane
invariant-loop-lane l =
    l.largest ≡ largest_below l.lane (λ lane. largest_below 5 (λ chunk. apart_in l.mask l.first l.second (chunk * 16 + lane)))
