-- Temperatures and weights in distances.
use Rattle.std.specs.Prelude.{ℕ, ◌-◌, ◌*◌, ◌/◌, ◌^◌, min, max, Option, Some, None}
use Rattle.costs.specs.Costs.{alike}
use Rattle.costs.specs.declared.weights.Weights.{Weights}
use Rattle.annealing.specs.declared.unit.Unit.{Unit}

-- in 1024ths of a distance what is given in millionths of the unit
abbrev pub temperature_in : Unit → ℕ → ℕ
temperature_in unit heat = min (heat * unit.numerator * 1024 / (1000000 * unit.denominator)) (2 ^ 58 - 1)

-- in distances what is given in millionths of the unit: at least 1
abbrev pub weight_in : Unit → ℕ → ℕ
weight_in unit weight = min (max (weight * unit.numerator / (1000000 * unit.denominator)) 1) (2 ^ 32 - 1)

-- what breaches weigh in distances: if those of rules weigh apart, they do so beside the others as much as they weigh more
abbrev pub weights_in : Unit → ℕ → Option ℕ → Weights
weights_in unit weight None = alike (weight_in unit weight)
weights_in unit weight (Some rule) = record { breach = weight_in unit weight; rule = weight_in unit rule - weight_in unit weight }
