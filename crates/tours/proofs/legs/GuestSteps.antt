-- Where a guest goes on to.
use Rattle.std.proofs.Common.{◌≡◌, ℕ, ◌+◌, Bool, true, false, ◌&&◌, ◌||◌, get_or, refl, ap, arith}
use Rattle.std.specs.Prelude.{nat_lt}
use Rattle.std.proofs.lemmas.Bool.Decides.{nat_tests}
use Rattle.fixtures.specs.Games.{Games, round_count, place}
use Rattle.tours.specs.Tours.{tour}
use Rattle.tours.specs.within.Walked.{with_guests}
use Rattle.tours.proofs.stops.Stops.{tour_at_round}

visited : (in_season hosted stays followed : Bool) (same : in_season ≡ true → followed ≡ hosted) →
    (followed && (in_season && stays)) ≡ (in_season && (stays && (false || hosted)))
visited true hosted stays followed same = grind (arith, same refl)
visited false hosted stays followed same = grind arith

-- a team that is no host plays at a host's in a round of the set where the place it goes to is a host's
pub followed_by_next : (g : Games) (hosts rounds : ℕ → Bool) (t r : ℕ) → hosts t ≡ false →
    (hosts (get_or (tour g t) (r + 1) 0) && (nat_lt r (round_count g.teams) && rounds r)) ≡
    (nat_lt r (round_count g.teams) && with_guests g hosts rounds t r)
unfolding with_guests
followed_by_next g hosts rounds t r outside =
    rw outside (visited (nat_lt r (round_count g.teams)) (hosts (place g t r)) (rounds r) (hosts (get_or (tour g t) (r + 1) 0))
    (λ in_season. ap hosts (tour_at_round g t r (grind (arith, nat_tests, in_season)))))
