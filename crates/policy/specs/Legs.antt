-- Legs: stretches of steps of one chain.
use Rattle.std.specs.Prelude.{ℕ, ◌≤◌, List, [], ◌∷◌, Option, Some, None, IfSome}
use Rattle.moves.specs.declared.moves.MoveKind.{MoveKind}
use Rattle.moves.specs.declared.moves.MoveKind.TheVariants.{Homes, Rounds, Teams, PartRounds, PartTeams}
use Rattle.policy.specs.declared.legs.MoveSet.{MoveSet}
use Rattle.policy.specs.declared.legs.MoveSet.TheVariants.{Rigid, Loose, Full, Repair, WideRepair, Partial}
use Rattle.policy.specs.declared.legs.Course.{Course}
use Rattle.policy.specs.declared.legs.Course.TheVariants.{Cools, Heats}
use Rattle.policy.specs.declared.legs.Leg.{Leg}
use Rattle.policy.specs.declared.legs.WeightCourse.{WeightCourse}

-- the kinds of moves that a leg draws from
abbrev pub kinds_of : MoveSet → List MoveKind
kinds_of Rigid = Homes ∷ Teams ∷ []
kinds_of Loose = Homes ∷ Rounds ∷ Teams ∷ []
kinds_of Full = Homes ∷ Rounds ∷ Teams ∷ PartRounds ∷ PartTeams ∷ []
kinds_of Repair = Homes ∷ PartRounds ∷ PartTeams ∷ []
kinds_of WideRepair = Homes ∷ Rounds ∷ PartRounds ∷ PartTeams ∷ []
kinds_of Partial = Homes ∷ PartRounds ∷ PartRounds ∷ PartTeams ∷ PartTeams ∷ []

-- the temperature never goes the other way
abbrev pub IsCourse : Course → Type 0
IsCourse (Cools from to) = to ≤ from
IsCourse (Heats from to) = from ≤ to

abbrev pub DoesCool : Course → Type 0
DoesCool (Cools from to) = Unit {0}
DoesCool (Heats from to) = ⊥

pub record IsLeg (l : Leg) : Type 0 where
  pub course : IsCourse l.course
  pub steps : 1 ≤ l.steps

-- the steps of a leg, if there is one
abbrev pub steps_of : Option Leg → ℕ
steps_of None = 0
steps_of (Some l) = l.steps

pub record IsWeightCourse (w : WeightCourse) : Type 0 where
  pub positive : 1 ≤ w.least
  pub first_least : w.least ≤ w.first
  pub first_limit : w.first ≤ w.most
  pub bounded : w.most ≤ 1000000000
  pub rule_limit : IfSome w.rule (λ rule. rule ≤ 1000000000)
