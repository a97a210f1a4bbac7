-- What a worker's report says.
use Rattle.std.specs.Prelude.{◌≡◌, ℕ, ◌+◌, ◌≤◌}
use Rattle.search.specs.declared.workers.Report.{Report}

-- a report of a worker that takes so many steps
pub record IsReport (steps : ℕ) (r : Report) : Type 0 where
  pub whole : r.made ≡ r.accepted + r.refused
  pub few : r.made ≤ steps
