-- A pair that is counted at its higher team.
use Rattle.std.proofs.Common.{◌≡◌, ℕ, zero, suc, ◌+◌, Bool, true, ◌&&◌, ◌||◌, arith}
use Rattle.std.specs.Prelude.{◌==◌, nat_lt, if◌then◌else◌}
use Rattle.std.proofs.lemmas.Bool.Decides.{nat_tests}
use Rattle.league.specs.Sums.{sum_below, count_where}
use Rattle.league.proofs.ForCallers.{sum_below_same}
use Rattle.fixtures.specs.declared.game.Cell.{Cell}
use Rattle.fixtures.specs.Games.{Games, cell, meets}
use Rattle.tours.specs.Repeats.{repeats_after}
use Rattle.tours.proofs.balances.Balances.{one}
use Rattle.tours.proofs.balances.RepeatsBalance.{repeats_with_after}
use Rattle.tours.proofs.meetings.Opponents.{opponent_in}

one_more : (n a b s : ℕ) (p : ℕ → Bool) → s ≡ (if p a && (nat_lt a n && a == b) then 1 else 0) →
    s + (if p n && (a == n && b == n) then 1 else 0) ≡ (if p a && (nat_lt a (suc n) && a == b) then 1 else 0)
one_more n a b s p is = grind (arith, nat_tests)

none_below : (a : ℕ) (p rest : Bool) → sum_below 0 (λ _. 0) ≡ (if p && (nat_lt a 0 && rest) then 1 else 0)
unfolding sum_below
none_below a p rest = grind (arith, nat_tests)

-- of the numbers below n that pass the one is equal to both, or none is
count_where_both : (n a b : ℕ) (p : ℕ → Bool) →
    count_where n (λ k. p k && (a == k && b == k)) ≡ (if p a && (nat_lt a n && a == b) then 1 else 0)
unfolding sum_below
count_where_both zero a b p = none_below a (p a) (a == b)
count_where_both (suc n) a b p = one_more n a b _ p (count_where_both n a b p)

-- how many lower teams a team meets both in a round and in the next
pub repeats_at_higher : (g : Games) (team round : ℕ) (now next : Cell) → now ≡ cell g team round → next ≡ cell g team (round + 1) →
    sum_below team (λ low. if meets g team low round && meets g team low (round + 1) then 1 else 0) ≡
    (if nat_lt now.opponent team && now.opponent == next.opponent then 1 else 0)
unfolding meets
repeats_at_higher g team round now next is_now is_next =
    rw (is_now, is_next) (count_where_both team (cell g team round).opponent (cell g team (round + 1)).opponent (λ _. true))

-- the pair of a higher team meets twice, and one of the two is in the set
abbrev pub is_repeat_with : Games → (ℕ → Bool) → ℕ → ℕ → Bool
is_repeat_with g teams r t =
    (teams (opponent_in g r t) || teams t) && (nat_lt (opponent_in g r t) t && opponent_in g r t == opponent_in g (r + 1) t)

pub repeats_with_after_higher : (g : Games) (teams : ℕ → Bool) (r : ℕ) →
    repeats_with_after g teams r ≡ count_where g.teams (is_repeat_with g teams r)
unfolding repeats_with_after meets
repeats_with_after_higher g teams r =
    sum_below_same g.teams
    (λ t. count_where t (λ low. (teams low || teams t) && (opponent_in g r t == low && opponent_in g (r + 1) t == low)))
    (λ t. if is_repeat_with g teams r t then 1 else 0)
    (λ t below. count_where_both t (opponent_in g r t) (opponent_in g (r + 1) t) (λ low. teams low || teams t))

abbrev pub at_higher : (ℕ → ℕ) → (ℕ → ℕ) → ℕ → ℕ
at_higher a b t = one (nat_lt (a t) t && a t == b t)

-- as many repeats as teams that meet a lower team twice
pub repeats_after_higher : (g : Games) (r : ℕ) → repeats_after g r ≡ sum_below g.teams (at_higher (opponent_in g r) (opponent_in g (r + 1)))
unfolding repeats_after repeats_with_after
repeats_after_higher g r = repeats_with_after_higher g (λ _. true) r
