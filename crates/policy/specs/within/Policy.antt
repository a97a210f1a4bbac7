-- What private functions alone need beside specs/Policy.antt.
use Rattle.std.specs.Prelude.{◌≤◌}
use Rattle.policy.specs.Limits.{max_effort}
use Rattle.policy.specs.Policy.{PolicyData}

-- what is true of every policy
pub record IsPolicy (p : PolicyData) : Type 0 where
  pub left_limit : p.left ≤ max_effort
  pub field_limit : p.field ≤ 4
