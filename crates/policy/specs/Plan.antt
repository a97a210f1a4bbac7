-- The plan: what the bouts of its wave do, and what it makes of how a leg ended.
use Rattle.std.specs.Prelude.{◌≡◌, ◌⊎◌, ℕ, ◌+◌, ◌-◌, ◌*◌, ◌/◌, ◌%◌, ◌||◌, max, min}
use Rattle.std.specs.Prelude.{slice_index, if◌then◌else◌, is_some}
use Rattle.policy.specs.declared.bouts.Bout.{Bout}
use Rattle.policy.specs.declared.legs.Course.{Course}
use Rattle.policy.specs.declared.legs.Course.TheVariants.{Cools, Heats}
use Rattle.policy.specs.declared.legs.Leg.{Leg}
use Rattle.policy.specs.declared.legs.LegEnd.{LegEnd}
use Rattle.policy.specs.declared.legs.WeightCourse.{WeightCourse}
use Rattle.policy.specs.declared.legs.MoveSet.{MoveSet}
use Rattle.policy.specs.declared.legs.MoveSet.TheVariants.{Partial}
use Rattle.policy.specs.declared.numbers.Heating.{Heating}
use Rattle.policy.specs.declared.numbers.TheConstants.{LOW, NEAR, WIDE, RULED_FIRST, RULED, SEEKING}
use Rattle.policy.specs.declared.plan.Bouts.{Bouts}
use Rattle.policy.specs.declared.plan.Bouts.TheVariants.{FirstHalf, Tries, Level, Copies, Seeking}
use Rattle.policy.specs.declared.plan.Plan.{Plan}
use Rattle.policy.specs.declared.plan.Reach.{Reach}
use Rattle.policy.specs.declared.plan.Reach.TheVariants.{Untried, Low, Near, Wide}
use Rattle.policy.specs.Bouts.{leg_of, share_of, single}
use Rattle.policy.specs.FirstHalf.{bout_in_first_half}
use Rattle.policy.specs.Legs.{DoesCool}

-- how tries heat, and what a breach weighs: before any as in the lowest
abbrev pub heating_of : Reach → Heating
heating_of Untried = LOW
heating_of Low = LOW
heating_of Near = NEAR
heating_of Wide = WIDE

-- what a breach weighs where rules' breaches weigh apart
abbrev pub ruled_in : Bouts → WeightCourse
ruled_in (FirstHalf chains) = RULED_FIRST
ruled_in (Tries shares) = RULED
ruled_in (Level shares) = RULED
ruled_in (Copies shares) = RULED
ruled_in (Seeking shares) = RULED

-- what a breach weighs in the present wave
abbrev pub weights_of : Plan → WeightCourse
weights_of p = if p.apart then ruled_in p.bouts else (heating_of p.reach).weights

abbrev pub heat_of : Heating → Course
heat_of h = Heats h.from h.to

-- from the peak to the end of a cycle
abbrev pub cools_from : Plan → ℕ → Course
cools_from p peak = Cools (max peak p.cycles.cold) p.cycles.cold

-- a peak is measured in thousandths of the hottest, and is no higher
abbrev pub peak_of : Plan → ℕ → ℕ
peak_of p number = min (p.hottest * slice_index p.cycles.peaks number / 1000) p.hottest

-- the cycle so many after the wave's first one: the peaks come in turn
abbrev pub cycle_of : Plan → ℕ → Course
cycle_of p later = cools_from p (peak_of p ((p.next_peak + later) % 4))

-- the moves of a cycle: partial ones where rules' breaches weigh apart
abbrev pub cycle_moves : Plan → MoveSet
cycle_moves p = if p.apart then Partial else p.moves

-- two cycles with so many steps
abbrev pub two_cycles : Plan → ℕ → Bout
two_cycles p steps = record {
  first = leg_of (cycle_moves p) (cycle_of p 0) (steps - steps / 2);
  second = leg_of (cycle_moves p) (cycle_of p 1) (steps / 2);
}

-- what a bout of the present wave does
abbrev pub bout_among : Plan → Bouts → ℕ → Bout
bout_among p (FirstHalf chains) number = bout_in_first_half chains number
bout_among p (Tries shares) number = single p.moves (heat_of (heating_of p.reach)) (share_of shares number)
bout_among p (Level shares) number = two_cycles p (share_of shares number)
bout_among p (Copies shares) number = single (cycle_moves p) (cycle_of p 0) (share_of shares number)
bout_among p (Seeking shares) number = single (cycle_moves p) SEEKING (share_of shares number)

abbrev pub bout_of : Plan → ℕ → Bout
bout_of p number = bout_among p p.bouts number

-- a try that heated cools next, from where it was
abbrev pub course_after : Plan → Course → Course → ℕ → Course
course_after p (Heats from to) next hottest = cools_from p hottest
course_after p (Cools from to) next hottest = next

-- the leg is the first one of the bout, or one that cools, as all second ones are
abbrev pub IsLegIn : Plan → ℕ → Leg → Type 0
IsLegIn p number leg = (leg ≡ (bout_of p number).first) ⊎ DoesCool leg.course

-- the leg that follows on the first one of a bout: it has what that left over, too
abbrev pub leg_after : Plan → Bout → LegEnd → Leg
leg_after p b ended =
    leg_of b.second.moves (course_after p b.first.course b.second.course ended.hottest) (b.second.steps + (b.first.steps - ended.steps))

-- the least temperature at which a leg that heats ended feasible
abbrev pub hottest_after : ℕ → Course → LegEnd → ℕ
hottest_after hottest (Heats from to) ended = if is_some ended.best then min hottest ended.hottest else hottest
hottest_after hottest (Cools from to) ended = hottest

-- the plan, once a leg ended so
abbrev pub plan_after : Plan → Leg → LegEnd → Plan
plan_after p leg ended = record p {
  hottest = hottest_after p.hottest leg.course ended;
  feasible = p.feasible || is_some ended.best;
}
