-- How the weight of a hard breach goes on.
use Rattle.std.specs.Prelude.{ℕ, ◌+◌, ◌-◌, ◌*◌, ◌/◌, min, max}
use Rattle.policy.specs.declared.legs.WeightCourse.{WeightCourse}
use Rattle.annealing.specs.declared.blocks.StepTally.{StepTally}

-- the weight after a block: up by a fiftieth, and down by the feasible steps' share of two fiftieths, within its limits
abbrev pub weight_after : WeightCourse → ℕ → StepTally → ℕ
weight_after weights weight tally =
    min (max (weight + weight / 50 - weight * tally.feasible / (25 * tally.steps)) weights.least) weights.most
