-- What private functions count on the way: words of theirs alone.
use Rattle.std.specs.Prelude.{◌≡◌, ℕ, ◌+◌, ◌-◌, ◌*◌, Bool, true, if◌then◌else◌, ◌<◌, ◌&&◌, ◌||◌, not, nat_lt, List, []}
use Rattle.std.specs.Prelude.{slice_index, slice_index_or, min}
use Rattle.std.specs.Int.{abs_diff}
use Rattle.league.specs.Sets.{has, all_numbers}
use Rattle.league.specs.Sums.{sum_where, count_where}
use Rattle.league.specs.declared.rule.RuleBody.{RuleBody}
use Rattle.league.specs.declared.rule.RuleBody.TheVariants.{Ca1, Ca2, Ca3, Ca4}
use Rattle.league.specs.declared.rule.Side.{Side}
use Rattle.league.specs.declared.rule.Side.TheVariants.{Home, Away, Any}
use Rattle.fixtures.specs.Games.{Games, round_count}
use Rattle.rules.specs.Deviations.{over, is_counted, games_in_window, breaks, largest_below}
use Rattle.rules.specs.declared.counted_games.CountedGames.{CountedGames}
use Rattle.rules.specs.declared.round_numbers.RoundNumbers.{RoundNumbers}

-- the games that a capacity rule counts, and none for another rule
abbrev pub counted_of : ℕ → RuleBody → CountedGames
counted_of n (Ca1 teams side slots most) = record { teams = teams; side = side; opponents = all_numbers n }
counted_of n (Ca2 teams side opponents slots most) = record { teams = teams; side = side; opponents = opponents }
counted_of n (Ca3 teams side opponents window most) = record { teams = teams; side = side; opponents = opponents }
counted_of n (Ca4 teams side opponents slots each most) = record { teams = teams; side = side; opponents = opponents }
counted_of n other = record { teams = 0; side = Any; opponents = all_numbers n }

-- how many games of a team count in a season against so many opponents, one of which may be the team itself
abbrev pub season_games : Side → ℕ → Bool → ℕ
season_games Home opponents own = opponents - (if own then 1 else 0)
season_games Away opponents own = opponents - (if own then 1 else 0)
season_games Any opponents own = 2 * (opponents - (if own then 1 else 0))

-- how many rounds of a window, which begins with its first, aren't in a set
abbrev pub lacks : ℕ → ℕ → ℕ → ℕ
lacks set first window = count_where window (λ k. not (has set (first + k)))

-- by how much the windows of a team that begin with one of the starts are over the most
abbrev pub over_from_starts : Games → Side → ℕ → ℕ → ℕ → ℕ → ℕ → ℕ
over_from_starts g side opponents window most starts team =
    sum_where (round_count g.teams + 1 - window) (has starts)
    (λ first. over (games_in_window g side (has opponents) window team first) most)

-- a row has those of some teams whose games count in its round
abbrev pub IsRow : Games → Side → ℕ → ℕ → ℕ → ℕ → Type 0
IsRow g side opponents teams r row = (t : ℕ) → has teams t ≡ true → has row t ≡ is_counted g side (has opponents) t r

-- the breaks of some teams in the slots, all together
abbrev pub breaks_together : Games → ℕ → ℕ → ℕ
breaks_together g teams slots = sum_where g.teams (has teams) (λ t. breaks g t (has slots) Any)

-- the length of a row, which has a number for each round and some more
abbrev pub row_length : ℕ
row_length = 80

-- how many numbers of a row the machine compares at once
abbrev pub lane_count : ℕ
lane_count = 16

-- how many chunks of so many a row has
abbrev pub chunk_count : ℕ
chunk_count = 5

-- whether a main team counts its pair with another: one of two main teams counts at the higher
abbrev pub counts_pair : ℕ → ℕ → ℕ → Bool
counts_pair main team other = nat_lt other team || (nat_lt team other && not (has main other))

-- the row of a team
abbrev pub row_of : List (List ℕ) → ℕ → List ℕ
row_of rows team = slice_index_or rows team []

-- by how much two rows are apart in a round, at most the mask's number there
abbrev pub apart_in : List ℕ → List ℕ → List ℕ → ℕ → ℕ
apart_in mask first second r = min (abs_diff (slice_index first r) (slice_index second r)) (slice_index mask r)

-- the largest of these
unfoldable pub worst_apart : List ℕ → List ℕ → List ℕ → ℕ
worst_apart mask first second = largest_below row_length (apart_in mask first second)

-- 0 as long as a row is, and then 1 as long
abbrev pub IsStep : List ℕ → Type 0
IsStep step = (k : ℕ) → k < 2 * row_length → slice_index step k ≡ (if nat_lt k row_length then 0 else 1)

-- 1 in each round from the first on, and 0 before it
abbrev pub from_on : ℕ → ℕ → ℕ
from_on first r = if nat_lt r first then 0 else 1

-- 1 in each round of a set, and 0 in the others
abbrev pub one_in : ℕ → ℕ → ℕ
one_in set r = if has set r then 1 else 0

-- the greatest number of eight bits in each round of a set, and 0 in the others
abbrev pub mask_in : ℕ → ℕ → ℕ
mask_in set r = if has set r then 255 else 0

-- the number of a round, by its bits
unfoldable pub number_at : RoundNumbers → ℕ → ℕ
number_at numbers r =
    one_in numbers.ones r + 2 * one_in numbers.twos r + 4 * one_in numbers.fours r + 8 * one_in numbers.eights r +
    16 * one_in numbers.sixteens r + 32 * one_in numbers.thirty_twos r + 64 * one_in numbers.sixty_fours r
