-- Home games up to and with a round.
use Rattle.std.proofs.Common.{◌≡◌, ℕ, ◌+◌, ◌<◌, ◌&&◌, nat_lt, Bool, refl, ◌∙◌, arith}
use Rattle.std.proofs.lemmas.Bool.{lt-ltb}
use Rattle.league.specs.Sets.{has}
use Rattle.league.specs.Sums.{count_where}
use Rattle.league.proofs.ForCallers.{count_where_same}

pub counted_until : (rounds round all until both : ℕ) (home : ℕ → Bool) → round < rounds →
    ((r : ℕ) → has all r ≡ (nat_lt r rounds && home r)) → ((r : ℕ) → has until r ≡ nat_lt r (round + 1)) →
    ((r : ℕ) → has both r ≡ (has until r && has all r)) → count_where (round + 1) (has both) ≡ count_where (round + 1) home
counted_until rounds round all until both home inside is_all is_until is_both =
    count_where_same (round + 1) (has both) home
    (λ r below. is_both r ∙
    rw (is_until r, lt-ltb r (round + 1) below, is_all r, lt-ltb r rounds (omega (arith, below, inside))) refl)
