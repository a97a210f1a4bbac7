-- Waves: which one comes next, and what it makes of the plan.
use Rattle.std.specs.Prelude.{◌≡◌, ◌≢◌, ◌⊎◌, ℕ, ◌+◌, ◌%◌, ◌==◌, ◌≤◌, ◌&&◌, not, if◌then◌else◌, Bool, true, false}
use Rattle.policy.specs.declared.bouts.Shares.{Shares}
use Rattle.policy.specs.declared.legs.MoveSet.{MoveSet}
use Rattle.policy.specs.declared.legs.MoveSet.TheVariants.{Full, Repair, WideRepair}
use Rattle.policy.specs.declared.numbers.TheConstants.{AFTER_FEW, AFTER_MORE, LEAST_TRIES}
use Rattle.policy.specs.declared.plan.Bouts.{Bouts}
use Rattle.policy.specs.declared.plan.Bouts.TheVariants.{FirstHalf, Tries, Level, Copies, Seeking}
use Rattle.policy.specs.declared.plan.Plan.{Plan}
use Rattle.policy.specs.declared.plan.Reach.{Reach}
use Rattle.policy.specs.declared.plan.Reach.TheVariants.{Untried, Low, Near, Wide}
use Rattle.policy.specs.declared.waves.LegSource.TheVariants.{Start, Own, Copies as OfFirst}
use Rattle.policy.specs.declared.waves.Wave.{Wave}
use Rattle.policy.specs.FirstHalf.{count_in}
use Rattle.policy.specs.Plan.{heating_of}

-- a chain was feasible, no try reaches further, or rules' breaches weigh apart: chains go on then though none is feasible
abbrev pub IsSettled : Plan → Type 0
IsSettled p = (p.feasible ≡ true) ⊎ (p.reach ≡ Wide) ⊎ (p.apart ≡ true)

-- a repair begins with tries, and they come as long as none was feasible
abbrev pub WantsTries : ℕ → Plan → Type 0
WantsTries field p = ((field ≡ 0) × (p.moves ≢ Full)) ⊎ ((1 ≤ field) × ¬ IsSettled p)

-- where rules' breaches weigh apart, copies seek a feasible schedule as long as no chain had one
abbrev pub seeks : Plan → Bool
seeks p = p.apart && not p.feasible

-- which bouts come next, with so many chains in the field
abbrev pub AreDue : ℕ → Plan → Bouts → Type 0
AreDue field p (FirstHalf chains) = (field ≡ 0) × (p.moves ≡ Full) × (chains.apart ≡ p.apart)
AreDue field p (Tries shares) = WantsTries field p
AreDue field p (Level shares) = (2 ≤ field) × IsSettled p
AreDue field p (Copies shares) = (field ≡ 1) × IsSettled p × (seeks p ≡ false)
AreDue field p (Seeking shares) = (field ≡ 1) × (seeks p ≡ true)

-- the wave has these bouts
abbrev pub HasBouts : Bouts → Wave → Type 0
HasBouts (FirstHalf chains) w = (w.source ≡ Start) × (w.bouts ≡ count_in chains)
HasBouts (Tries shares) w = (w.source ≡ Start) × (w.bouts ≡ shares.bouts)
HasBouts (Level shares) w = (w.source ≡ Own) × (w.bouts ≡ shares.bouts)
HasBouts (Copies shares) w = (w.source ≡ OfFirst) × (w.bouts ≡ shares.bouts)
HasBouts (Seeking shares) w = (w.source ≡ OfFirst) × (w.bouts ≡ shares.bouts)

-- how many cycles each chain has in these bouts
abbrev pub cycles_in : Bouts → ℕ
cycles_in (FirstHalf chains) = 0
cycles_in (Tries shares) = 0
cycles_in (Level shares) = 2
cycles_in (Copies shares) = 1
cycles_in (Seeking shares) = 1

-- tries reach further than those before them
abbrev pub ReachesFurther : Reach → Reach → Type 0
ReachesFurther Untried next = (next ≡ Low) ⊎ (next ≡ Near)
ReachesFurther Low next = next ≡ Near
ReachesFurther Near next = next ≡ Wide
ReachesFurther Wide next = next ≡ Wide

-- the moves from these tries on: where they are wide, a repair's have rounds too
abbrev pub moves_from : Reach → MoveSet → MoveSet
moves_from Wide Repair = WideRepair
moves_from _ moves = moves

-- what tries make of the plan
pub record IsWidened (shares : Shares) (old new : Plan) : Type 0 where
  pub further : ReachesFurther old.reach new.reach
  pub moves : new.moves ≡ moves_from new.reach old.moves
  pub hottest : new.hottest ≡ (heating_of new.reach).to
  pub cycles : new.cycles ≡ (if shares.bouts == LEAST_TRIES then AFTER_FEW else AFTER_MORE)

-- what only tries change
pub record SameReach (old new : Plan) : Type 0 where
  pub reach : new.reach ≡ old.reach
  pub moves : new.moves ≡ old.moves
  pub hottest : new.hottest ≡ old.hottest
  pub cycles : new.cycles ≡ old.cycles

-- only tries change how far they reach, and by what the cycles after them go
abbrev pub ReachedBy : Bouts → Plan → Plan → Type 0
ReachedBy (Tries shares) old new = IsWidened shares old new
ReachedBy _ old new = SameReach old new

-- the plan of the wave that comes next, with so many chains in the field
pub record IsNextPlan (field : ℕ) (old new : Plan) (w : Wave) : Type 0 where
  pub due : AreDue field old new.bouts
  pub bouts : HasBouts new.bouts w
  pub reached : ReachedBy new.bouts old new
  -- the peaks come in turn
  pub next_peak : new.next_peak ≡ (old.next_peak + cycles_in old.bouts) % 4
  pub teams : new.teams ≡ old.teams
  pub goes_on : new.goes_on ≡ old.goes_on
  pub apart : new.apart ≡ old.apart
  pub feasible : new.feasible ≡ old.feasible
