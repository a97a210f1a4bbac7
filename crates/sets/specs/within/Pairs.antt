-- What private functions alone need beside specs/Pairs.antt.
use Rattle.std.specs.Prelude.{◌≡◌, ℕ, ◌==◌, not, List, length}
use Rattle.sets.specs.Limits.{max_teams}
use Rattle.sets.specs.Sets.{has}
use Rattle.sets.specs.Pairs.{seconds_of}

-- the set of those teams that are first in some pair
pub record AreFirsts (pairs : List ℕ) (firsts : ℕ) : Type 0 where
  pub rows : length pairs ≡ max_teams
  pub members : (t : ℕ) → has firsts t ≡ not (seconds_of pairs t == 0)
