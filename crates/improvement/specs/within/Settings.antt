-- What all legs share.
use Rattle.std.specs.Prelude.{◌≡◌, ◌≤◌}
use Rattle.league.specs.League.{teams, IsLeague}
use Rattle.policy.specs.Limits.{max_effort}
use Rattle.draws.specs.Draws.{AreRoundsOf}
use Rattle.annealing.specs.Walks.{IsUnitOf}
use Rattle.improvement.specs.declared.plan.ImproveFault.{ImproveFault}
use Rattle.improvement.specs.declared.plan.ImproveFault.TheVariants.{Workers, Memory, Write}
use Rattle.improvement.specs.declared.plan.ImprovePlan.{ImprovePlan}
use Rattle.improvement.specs.declared.setting.Setting.{Setting}
use Rattle.improvement.specs.Legs.{IsWorkers, room_of}

-- what an improvement of the start's league goes by
pub record IsSetting {T G : Type 0} (s : Setting T G) : Type 0 where
  pub league : IsLeague s.start.now.league
  pub workers : IsWorkers s.plan
  pub effort : s.plan.effort ≤ max_effort
  pub unit : IsUnitOf s.start.now.league s.unit
  pub rounds : AreRoundsOf (teams s.start.now.league) s.rounds.now
  pub room : s.start.now.room ≡ room_of s.plan.effort

-- before anything is written the plan may be refused so
abbrev pub MayRefuse : ImprovePlan → ImproveFault → Type 0
MayRefuse plan Workers = ¬ IsWorkers plan
MayRefuse plan Memory = IsWorkers plan
MayRefuse plan Write = ⊥
