-- The checks of a league as a whole, each a test of its parts, and what they leave true of a table of distances.
use Rattle.std.specs.Prelude.{◌≡◌, ℕ, ◌%◌, ◌≤◌, ◌&&◌, ◌==◌, List, [], length, slice_index, slice_index_or, Bool, nat_le}
use Rattle.std.specs.Prelude.{Result, ⊤}
use Rattle.std.specs.List.{list_all, AllByRecursion}
use Rattle.league.specs.declared.fault.LeagueFault.{LeagueFault}
use Rattle.league.specs.declared.fault.LeagueFault.TheVariants.{TeamCount, DistanceShape, DistanceRange, Diagonal}
use Rattle.league.specs.declared.fault.LeagueFault.TheVariants.{Asymmetric, TooManyRules}
use Rattle.league.specs.Reading.{◌>>=◌, unless}
use Rattle.league.specs.Limits.{min_teams, max_teams, max_distance, max_rules}
use Rattle.sets.specs.Sums.{all_below}

-- the number at column b of row a, or 0 beyond the table
abbrev pub distance_of : List (List ℕ) → ℕ → ℕ → ℕ
distance_of table a b = slice_index (slice_index_or table a []) b

-- even, and from 4 to 40
abbrev pub is_team_count : ℕ → Bool
is_team_count n = (n % 2 == 0) && (nat_le min_teams n && nat_le n max_teams)

-- n numbers in each row
abbrev pub has_columns : ℕ → List (List ℕ) → Bool
has_columns n = list_all (λ row. length row == n)

-- n rows of n numbers
abbrev pub is_square : ℕ → List (List ℕ) → Bool
is_square n table = (length table == n) && has_columns n table

abbrev pub are_in_range : List (List ℕ) → Bool
are_in_range = list_all (list_all (λ x. nat_le x max_distance))

-- no distance from a team to itself
unfoldable pub has_zero_diagonal : ℕ → List (List ℕ) → Bool
has_zero_diagonal n table = all_below n (λ a. distance_of table a a == 0)

-- the first n numbers of row a are those of column a
unfoldable pub is_mirrored_at : List (List ℕ) → ℕ → ℕ → Bool
is_mirrored_at table n a = all_below n (λ b. distance_of table a b == distance_of table b a)

unfoldable pub is_symmetric : ℕ → List (List ℕ) → Bool
is_symmetric n table = all_below n (is_mirrored_at table n)

-- the checks of the whole, in their order: n teams, this table of distances, so many rules
unfoldable pub checked : ℕ → List (List ℕ) → ℕ → Result ⊤ LeagueFault
checked n table rules = do
  counted ← unless (is_team_count n) TeamCount
  shaped ← unless (is_square n table) DistanceShape
  ranged ← unless (are_in_range table) DistanceRange
  zeroed ← unless (has_zero_diagonal n table) Diagonal
  mirrored ← unless (is_symmetric n table) Asymmetric
  unless (nat_le rules max_rules) TooManyRules

-- What the checks leave true of n teams and their distances. Beyond the table a distance is 0, so its facts hold of all a and b.
pub record IsDistanceTable (n : ℕ) (table : List (List ℕ)) : Type 0 where
  pub even : n % 2 ≡ 0
  pub least : min_teams ≤ n
  pub most : n ≤ max_teams
  pub rows : length table ≡ n
  pub columns : AllByRecursion (λ row. length row ≡ n) table
  pub near : (a b : ℕ) → distance_of table a b ≤ max_distance
  pub diagonal : (a : ℕ) → distance_of table a a ≡ 0
  pub symmetric : (a b : ℕ) → distance_of table a b ≡ distance_of table b a
