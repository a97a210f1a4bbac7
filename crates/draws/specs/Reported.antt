-- The steps that were reported to a gate.
use Rattle.std.specs.Prelude.{◌≡◌, ℕ, List, sum_by, All}
use Rattle.draws.specs.declared.gates.Progress.{Progress}

abbrev pub steps_of : Progress → ℕ
steps_of p = p.steps

-- so many steps were reported, in parts
pub record AreReported (reported : Progress → Type 0) (steps : ℕ) : Type 0 where
  pub parts : List Progress
  pub are : All reported parts
  pub sum : sum_by steps_of parts ≡ steps
