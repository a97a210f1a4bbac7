-- Repeats with a team of a set, counted at the teams of the set.
use Rattle.std.proofs.Common.{◌≡◌, ◌≢◌, ℕ, ◌+◌, ◌<◌, Bool, not, ◌&&◌, ◌||◌, inl, inr, sym, ◌∙◌, ap, arith}
use Rattle.std.specs.Prelude.{◌==◌, nat_lt, if◌then◌else◌}
use Rattle.std.proofs.lemmas.Bool.{cases_eq, eq-eqb, ne_eqb}
use Rattle.std.proofs.lemmas.Bool.Decides.{nat_tests}
use Rattle.league.specs.Sums.{sum_below, count_where, sum_where}
use Rattle.league.proofs.ForCallers.{sum_below_same, sum_below_add}
use Rattle.fixtures.specs.Games.{Games, round_count, cell, IsDoubleRoundRobin}
use Rattle.tours.proofs.balances.Balances.{one}
use Rattle.tours.proofs.balances.RepeatsBalance.{repeats_with_after}
use Rattle.tours.proofs.meetings.Partners.{HasPartners, IsPairing, sum_below_partners}
use Rattle.tours.proofs.meetings.Opponents.{opponent_in, IsPairing-opponents}
use Rattle.tours.proofs.meetings.HigherTeams.{repeats_with_after_higher}

-- the other team of a pair of the set that is counted at its higher team, where that isn't in the set
abbrev with_lower : (ℕ → Bool) → (ℕ → ℕ) → (ℕ → ℕ) → ℕ → ℕ
with_lower teams a b t = one ((teams (a t) && not (teams t)) && (nat_lt (a t) t && a t == b t))

abbrev with_higher : (ℕ → Bool) → (ℕ → ℕ) → (ℕ → ℕ) → ℕ → ℕ
with_higher teams a b t = one (teams t && (nat_lt (a t) t && a t == b t))

split : (mine other lower same : Bool) →
    one ((other || mine) && (lower && same)) ≡ one (mine && (lower && same)) + one ((other && not mine) && (lower && same))
split mine other lower same = grind arith

-- seen from the other team
same_there : (n : ℕ) (a b : ℕ → ℕ) → HasPartners n a → HasPartners n b → (t : ℕ) → t < n → (t == b (a t)) ≡ (a t == b t)
same_there n a b partners_a partners_b t in_t = elim (cases_eq (a t) (b t)) [
  | inl same ↦ eq-eqb t (b (a t)) (sym (ap b same ∙ partners_b.back t in_t)) ∙ sym (eq-eqb (a t) (b t) same)
  | inr other ↦
      ne_eqb t (b (a t)) (λ is. other (sym (ap b is ∙ partners_b.back (a t) (partners_a.in_range t in_t)))) ∙ sym (ne_eqb (a t) (b t) other)
]

counted : (mine other same : Bool) (o t : ℕ) → o ≢ t →
    one (mine && (nat_lt o t && same)) + one ((mine && not other) && (nat_lt t o && same)) ≡
    (if mine then one (same && (nat_lt o t || not other)) else 0)
counted mine other same o t apart = grind (arith, nat_tests)

at_members : (n : ℕ) (teams : ℕ → Bool) (a b : ℕ → ℕ) → IsPairing n a → HasPartners n b →
    count_where n (λ t. (teams (a t) || teams t) && (nat_lt (a t) t && a t == b t)) ≡
    sum_where n teams (λ t. one (a t == b t && (nat_lt (a t) t || not (teams (a t)))))
at_members n teams a b pairing partners =
    sum_below_same n (λ t. one ((teams (a t) || teams t) && (nat_lt (a t) t && a t == b t)))
    (λ t. with_higher teams a b t + with_lower teams a b t)
    (λ t below. split (teams t) (teams (a t)) (nat_lt (a t) t) (a t == b t)) ∙
    sum_below_add n (with_higher teams a b) (with_lower teams a b) ∙
    ap (λ x. sum_below n (with_higher teams a b) + x) (sym (sum_below_partners n a (with_lower teams a b) pairing.partners)) ∙
    sym (sum_below_add n (with_higher teams a b) (λ t. with_lower teams a b (a t))) ∙
    sum_below_same n (λ t. with_higher teams a b t + with_lower teams a b (a t))
    (λ t. if teams t then one (a t == b t && (nat_lt (a t) t || not (teams (a t)))) else 0) by_team
  where
    by_team : (t : ℕ) → t < n → with_higher teams a b t + with_lower teams a b (a t) ≡
        (if teams t then one (a t == b t && (nat_lt (a t) t || not (teams (a t)))) else 0)
    by_team t in_t =
        rw (pairing.partners.back t in_t, same_there n a b pairing.partners partners t in_t)
        (counted (teams t) (teams (a t)) (a t == b t) (a t) t (pairing.apart t in_t))

-- 1 if a team meets the same team in a round and in the next, and that isn't a higher team of the set
abbrev pub repeat_at : Games → (ℕ → Bool) → ℕ → ℕ → ℕ
repeat_at g teams r t =
    if (cell g t r).opponent == (cell g t (r + 1)).opponent &&
    (nat_lt (cell g t r).opponent t || not (teams (cell g t r).opponent)) then 1 else 0

pub repeats_with_after_members : (g : Games) (teams : ℕ → Bool) (r : ℕ) → IsDoubleRoundRobin g → r + 1 < round_count g.teams →
    repeats_with_after g teams r ≡ sum_where g.teams teams (repeat_at g teams r)
repeats_with_after_members g teams r rr in_r =
    repeats_with_after_higher g teams r ∙
    at_members g.teams teams (opponent_in g r) (opponent_in g (r + 1)) (IsPairing-opponents g rr r (omega arith))
    (IsPairing-opponents g rr (r + 1) in_r).partners
