-- The temperatures of a leg's blocks, and the thresholds that are drawn at them.
use Rattle.std.specs.Prelude.{ℕ, ◌+◌, ◌-◌, ◌*◌, ◌/◌, min}
use Rattle.policy.specs.declared.legs.Course.{Course}
use Rattle.policy.specs.declared.legs.Course.TheVariants.{Cools, Heats}
use Rattle.policy.specs.declared.legs.Leg.{Leg}

-- in thousandths of the unit: it rises in a line until half of the steps are taken, and then stays
abbrev pub rising : ℕ → ℕ → ℕ → ℕ → ℕ
rising steps from to block = from + min ((to - from) * 2 * 1000 * block / steps) (to - from)

-- the highest of the blocks up to one, in thousandths of the unit
abbrev pub highest_of : Course → ℕ → ℕ → ℕ
highest_of (Cools from to) steps block = from
highest_of (Heats from to) steps block = rising steps from to block

abbrev pub hottest_of : Leg → ℕ → ℕ
hottest_of leg block = highest_of leg.course leg.steps block
