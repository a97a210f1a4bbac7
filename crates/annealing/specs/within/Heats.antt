-- What private functions alone need beside specs/Heats.antt.
use Rattle.std.specs.Prelude.{ℕ, ◌+◌, ◌-◌, ◌*◌, ◌/◌, ◌^◌, List, slice_index}
use Rattle.policy.specs.declared.legs.Course.{Course}
use Rattle.policy.specs.declared.legs.Course.TheVariants.{Cools, Heats}
use Rattle.policy.specs.declared.legs.Leg.{Leg}
use Rattle.annealing.specs.Heats.{rising}

-- a leg's blocks are of a thousand steps each, but for the last one
abbrev pub block_count : Leg → ℕ
block_count leg = (leg.steps + 999) / 1000

-- of a block of a course with so many steps, in millionths of the unit
abbrev pub heat_of : Course → ℕ → ℕ → ℕ → ℕ
heat_of (Cools from to) steps blocks block = 1000 * from - 1000 * (from - to) * block / blocks
heat_of (Heats from to) steps blocks block = 1000 * rising steps from to block

abbrev pub heat_at : Leg → ℕ → ℕ
heat_at leg block = heat_of leg.course leg.steps (block_count leg) block

-- the temperature times one of the 256 quantiles, the one that the word's first byte names
abbrev pub threshold_of : List ℕ → ℕ → ℕ → ℕ
threshold_of quantiles temperature word = temperature * slice_index quantiles (word / 2 ^ 24) / 2 ^ 26
