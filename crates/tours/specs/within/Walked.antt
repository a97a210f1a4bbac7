-- What the walks over a part count at each of its teams: words of private functions alone.
use Rattle.std.specs.Prelude.{ℕ, ◌+◌, ◌&&◌, ◌||◌, nat_lt, Bool, if◌then◌else◌, slice_index}
use Rattle.league.specs.League.{LeagueData, distance}
use Rattle.league.specs.Sums.{sum_where}
use Rattle.fixtures.specs.Games.{Games, round_count, cell, place}
use Rattle.fixtures.specs.Edits.{exchanged}
use Rattle.tours.specs.Tours.{tour, leg_count}
use Rattle.tours.specs.Parts.{touches_leg}

-- the teams of the first set and their guests, each in the rounds of the second
unfoldable pub with_guests : Games → (ℕ → Bool) → (ℕ → Bool) → ℕ → ℕ → Bool
with_guests g teams rounds t r = rounds r && (teams t || teams (place g t r))

-- of legs that are given by a function of team and index, those of a team that touch a round of the set
abbrev pub part_of : (ℕ → ℕ → ℕ) → Games → (ℕ → Bool) → ℕ → ℕ
part_of f g set t = sum_where (leg_count g) (touches_leg g set) (f t)

-- the leg to a place and, unless the next round of the season is in the set too, the leg on from there
abbrev pub there_and_on : (ℕ → ℕ → ℕ) → Games → (ℕ → Bool) → ℕ → ℕ → ℕ
there_and_on f g set t r =
    f t r + (if nat_lt (r + 1) (round_count g.teams) && set (r + 1) then 0 else f t (r + 1))

-- those of a host's opponent, unless it is one of the hosts
abbrev pub guest_terms : (ℕ → ℕ → ℕ) → Games → (ℕ → Bool) → (ℕ → Bool) → ℕ → ℕ → ℕ
guest_terms f g hosts rounds host r =
    if hosts (cell g host r).opponent then 0
    else there_and_on f g (with_guests g hosts rounds (cell g host r).opponent) (cell g host r).opponent r

-- the leg with this index in a tour in which the places of rounds k and m are exchanged: none if they are the same
abbrev pub leg_exchanged : LeagueData → Games → ℕ → ℕ → ℕ → ℕ → ℕ
leg_exchanged l g k m t r =
    distance l (slice_index (tour g t) (exchanged (k + 1) (m + 1) r))
    (slice_index (tour g t) (exchanged (k + 1) (m + 1) (r + 1)))
