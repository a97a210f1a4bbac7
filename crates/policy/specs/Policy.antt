-- The policy: what is left of the effort, and which wave may come next.
use Rattle.std.specs.Prelude.{◌≡◌, ℕ, ◌+◌, ◌/◌, ◌==◌, ◌≤◌, min, if◌then◌else◌}
use Rattle.std.specs.Prelude.{Bool, true, false, ◌&&◌, ◌||◌, nat_le, nat_lt, Option, Some, None}
use Rattle.policy.specs.declared.legs.Leg.{Leg}
use Rattle.policy.specs.declared.legs.MoveSet.{MoveSet}
use Rattle.policy.specs.declared.legs.MoveSet.TheVariants.{Full, Repair as RepairMoves}
use Rattle.policy.specs.declared.numbers.Cycles.{Cycles}
use Rattle.policy.specs.declared.numbers.TheConstants.{FEW_TEAMS, HOT_SECOND_HALF, SECOND_HALF, UNIT}
use Rattle.policy.specs.declared.plan.Plan.{Plan}
use Rattle.policy.specs.declared.plan.Reach.TheVariants.{Untried}
use Rattle.policy.specs.declared.waves.Aim.{Aim}
use Rattle.policy.specs.declared.waves.Aim.TheVariants.{Anew, GoOn, Repair}
use Rattle.policy.specs.declared.waves.Facts.{Facts}
use Rattle.policy.specs.declared.waves.LegSource.{LegSource}
use Rattle.policy.specs.declared.waves.LegSource.TheVariants.{Start, Own, Copies}
use Rattle.policy.specs.declared.waves.Wave.{Wave}

pub record PolicyData : Type 0 where
  -- the steps that no leg has taken yet
  pub left : ℕ
  -- how many chains go on: none before the first wave
  pub field : ℕ
  -- the present wave's bouts, and what decides about the next waves
  pub plan : Plan

abbrev pub policy_data : ℕ → ℕ → Plan → PolicyData
policy_data left field plan = record { left = left; field = field; plan = plan }

-- which moves there are after the first half
abbrev pub moves_for : Aim → MoveSet
moves_for Anew = Full
moves_for GoOn = Full
moves_for Repair = RepairMoves

abbrev pub goes_on_for : Aim → Bool
goes_on_for Anew = false
goes_on_for GoOn = true
goes_on_for Repair = false

-- whether rules' breaches weigh apart: where many teams play, unless the start is repaired
abbrev pub searches_for : Aim → Bool
searches_for Anew = true
searches_for GoOn = true
searches_for Repair = false

abbrev pub weighs_apart : Facts → Bool
weighs_apart facts = facts.breaks_rules && nat_lt FEW_TEAMS facts.teams && searches_for facts.aim

-- by which cycles the second half goes: hotter ones where few teams play or rules' breaches weigh apart
abbrev pub second_half_for : ℕ → Bool → Cycles
second_half_for teams apart = if apart || nat_le teams FEW_TEAMS then HOT_SECOND_HALF else SECOND_HALF

-- a plan by which nothing was done yet
pub record IsNewPlan (facts : Facts) (p : Plan) : Type 0 where
  pub teams : p.teams ≡ facts.teams
  pub goes_on : p.goes_on ≡ goes_on_for facts.aim
  pub apart : p.apart ≡ weighs_apart facts
  pub moves : p.moves ≡ moves_for facts.aim
  pub reach : p.reach ≡ Untried
  pub cycles : p.cycles ≡ second_half_for facts.teams (weighs_apart facts)
  pub cycles_left : p.cycles_left ≡ (second_half_for facts.teams (weighs_apart facts)).count
  pub next_peak : p.next_peak ≡ 0
  pub hottest : p.hottest ≡ UNIT
  pub feasible : p.feasible ≡ false

-- how many chains go on after the wave, if there is one
abbrev pub field_after : ℕ → Option Wave → ℕ
field_after field None = field
field_after field (Some w) = w.keep

-- Chains begin where there are some, and of those that go on each by itself the better half stays.
abbrev pub GoesOn : ℕ → LegSource → ℕ → ℕ → Type 0
GoesOn field Start bouts keep = Unit {0}
GoesOn field Own bouts keep = (bouts ≡ field) × (keep ≡ (bouts + 1) / 2)
GoesOn field Copies bouts keep = (1 ≤ field) × (keep ≡ 1)

-- what the next wave may be, with so many chains in the field
pub record IsNextWave (field : ℕ) (w : Wave) : Type 0 where
  pub bouts_least : 1 ≤ w.bouts
  pub goes_on : GoesOn field w.source w.bouts w.keep
  pub keep_least : 1 ≤ w.keep
  pub keep_limit : w.keep ≤ 4
  pub keep_within : w.keep ≤ w.bouts

-- a leg, as far as there are steps left for it
abbrev pub as_far_as : ℕ → Leg → Option Leg
as_far_as left leg = if min leg.steps left == 0 then None else Some (record leg { steps = min leg.steps left })
