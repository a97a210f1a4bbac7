-- Bouts: what one chain does in a wave, up to two legs in a row.
use Rattle.std.specs.Prelude.{ℕ, ◌+◌, ◌-◌, ◌*◌, ◌/◌, ◌%◌, nat_lt, Bool, if◌then◌else◌}
use Rattle.std.specs.Int.{from_bool}
use Rattle.policy.specs.declared.bouts.Bout.{Bout}
use Rattle.policy.specs.declared.bouts.Shares.{Shares}
use Rattle.policy.specs.declared.legs.Course.{Course}
use Rattle.policy.specs.declared.legs.Leg.{Leg}
use Rattle.policy.specs.declared.legs.MoveSet.{MoveSet}
use Rattle.policy.specs.declared.legs.MoveSet.TheVariants.{Rigid, Loose}
use Rattle.policy.specs.declared.numbers.TheConstants.{HOT, HOTTER, MILD, MILD_TENTHS}

-- steps that bouts share as equally as whole numbers allow, the first ones having the larger parts
abbrev pub share_of : Shares → ℕ → ℕ
share_of s number = s.steps / s.bouts + from_bool (nat_lt number (s.steps % s.bouts))

abbrev pub leg_of : MoveSet → Course → ℕ → Leg
leg_of moves course steps = record { moves = moves; course = course; steps = steps }

-- one leg
abbrev pub single : MoveSet → Course → ℕ → Bout
single moves course steps = record { first = leg_of moves course steps; second = leg_of moves course 0 }

-- how a rigid chain cools first: from hotter where rules' breaches weigh apart
abbrev pub hot_for : Bool → Course
hot_for apart = if apart then HOTTER else HOT

-- a rigid chain, which in the end draws rounds too
abbrev pub rigid : Course → ℕ → Bout
rigid hot steps = record {
  first = leg_of Rigid hot (steps - steps * MILD_TENTHS / 10);
  second = leg_of Loose MILD (steps * MILD_TENTHS / 10);
}
