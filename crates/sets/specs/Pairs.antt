-- Sets of ordered pairs of teams: for each first team the set of the second ones.
use Rattle.std.specs.Prelude.{ℕ, Bool, List, replicate, slice_index, slice_set}
use Rattle.sets.specs.Limits.{max_teams}
use Rattle.sets.specs.Sets.{has, with_number}

-- the second teams of the pairs that have this first one
abbrev pub seconds_of : List ℕ → ℕ → ℕ
seconds_of pairs first = slice_index pairs first

unfoldable pub has_pair : List ℕ → ℕ → ℕ → Bool
has_pair pairs first second = has (seconds_of pairs first) second

abbrev pub no_pairs : List ℕ
no_pairs = replicate max_teams 0

abbrev pub with_pair : List ℕ → ℕ → ℕ → List ℕ
with_pair pairs first second = slice_set pairs first (with_number (seconds_of pairs first) second)
