-- What the walks count that predict on the schedule before it what an exchange changes: words of private functions alone.
use Rattle.std.specs.Prelude.{◌≡◌, ℕ, ◌<◌, ◌≤◌, true, false, ◌+◌, ◌-◌, ◌*◌, ◌==◌, ◌&&◌, ◌||◌, not, nat_lt, Bool, if◌then◌else◌, slice_index}
use Rattle.league.specs.League.{LeagueData, distance}
use Rattle.fixtures.specs.Games.{Games, round_count, cell, is_home}
use Rattle.league.specs.Sets.{has}
use Rattle.league.specs.Sums.{sum_where}
use Rattle.fixtures.specs.Changes.{flips}
use Rattle.fixtures.specs.Edits.{exchanged}
use Rattle.fixtures.specs.within.Edits.{is_either}
use Rattle.tours.specs.Streaks.{windows, is_streak}
use Rattle.tours.specs.Tours.{tour}

-- what a walk over the numbers of a set sums up: two terms of each number, one as it is and one after an exchange
pub record AreSums (n set limit x y : ℕ) (f g : ℕ → ℕ) : Type 0 where
  pub before : x ≡ sum_where n (has set) f
  pub after : y ≡ sum_where n (has set) g
  pub before_limit : x ≤ limit * n
  pub after_limit : y ≤ limit * n

-- of a tour's legs, those that touch one of the rounds k and l, of which k is the first
abbrev pub legs_around : (ℕ → ℕ) → ℕ → ℕ → ℕ
legs_around leg k l =
    if l == k + 1 then leg k + leg (k + 1) + leg (l + 1) else leg k + leg (k + 1) + (leg l + leg (l + 1))

-- those of a team that is at different places in the two rounds: at one place in both, its legs stay as they are
abbrev pub legs_changed : Games → (ℕ → ℕ → ℕ) → ℕ → ℕ → ℕ → ℕ
legs_changed g leg k l t =
    if slice_index (tour g t) (k + 1) == slice_index (tour g t) (l + 1) then 0 else legs_around (leg t) k l

-- whether the stop with this index is that of a round of the set
abbrev pub in_rounds : Games → (ℕ → Bool) → ℕ → Bool
in_rounds g rounds index = not (index == 0) && (nat_lt (index - 1) (round_count g.teams) && rounds (index - 1))

-- the stop with this index in a team's tour after i and j are exchanged in the rounds of the set
unfoldable pub stop_predicted : Games → ℕ → ℕ → (ℕ → Bool) → ℕ → ℕ → ℕ
stop_predicted g i j rounds t index =
    if in_rounds g rounds index then exchanged i j (slice_index (tour g (exchanged i j t)) index)
    else slice_index (tour g t) index

-- and the leg
abbrev pub leg_predicted : LeagueData → Games → ℕ → ℕ → (ℕ → Bool) → ℕ → ℕ → ℕ
leg_predicted l g i j rounds t r = distance l (stop_predicted g i j rounds t r) (stop_predicted g i j rounds t (r + 1))

-- the leg of a team with i and j exchanged among its places
abbrev pub leg_flipped : LeagueData → Games → ℕ → ℕ → ℕ → ℕ → ℕ
leg_flipped l g i j t r =
    distance l (exchanged i j (slice_index (tour g t) r)) (exchanged i j (slice_index (tour g t) (r + 1)))

-- a round after which a team plays on the other side, and neither in it nor in the next against i or j
pub record IsFlip (g : Games) (i j t s : ℕ) : Type 0 where
  pub next : s + 1 < round_count g.teams
  pub flipping : flips g s (s + 1) t ≡ true
  pub here : is_either i j (cell g t s).opponent ≡ false
  pub there : is_either i j (cell g t (s + 1)).opponent ≡ false

-- the rounds of a set after which a team plays on the other side, if the next round is one of the season's
pub record AreFlips (g : Games) (inner t set : ℕ) : Type 0 where
  pub inside : (s : ℕ) → has inner s ≡ false → has set s ≡ false
  pub flipping : (s : ℕ) → s + 1 < round_count g.teams → has inner s ≡ true → has set s ≡ flips g s (s + 1) t

-- the rounds of the season in which a team is at home
abbrev pub HasHomes : Games → ℕ → ℕ → Type 0
HasHomes g team home = (r : ℕ) → has home r ≡ (nat_lt r (round_count g.teams) && is_home g team r)

-- the first rounds of a team's streaks of so many rounds
abbrev pub HasStreaks : Games → ℕ → ℕ → ℕ → Type 0
HasStreaks g team length streaks = (first : ℕ) → has streaks first ≡ (nat_lt first (windows g length) && is_streak g team first length)

-- whom a team meets in the round before the index: itself before the first round and after the last
abbrev pub met : Games → ℕ → ℕ → ℕ
met g t index = if index == 0 || nat_lt (round_count g.teams) index then t else (cell g t (index - 1)).opponent

-- 1 if a team meets the same lower team twice
abbrev pub same_lower : ℕ → ℕ → ℕ → ℕ
same_lower t a b = if nat_lt a t && a == b then 1 else 0

-- of the terms between two rounds that a team meets lower teams in, those around rounds k and l, of which k is the first:
-- none if it meets the same team in both
abbrev pub repeats_around : (ℕ → ℕ) → (ℕ → ℕ) → ℕ → ℕ → ℕ → ℕ
repeats_around meets stop t k l =
    if meets (k + 1) == meets (l + 1) then 0 else legs_around (λ r. same_lower t (meets (stop r)) (meets (stop (r + 1)))) k l

-- 1 if one team meets in a round whom another, or it itself, meets in the next
abbrev pub meets_next : Games → ℕ → ℕ → ℕ → ℕ
meets_next g t u r = if (cell g t r).opponent == (cell g u (r + 1)).opponent then 1 else 0
