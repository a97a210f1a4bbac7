-- Pairs that play both their games in one half of the season, where a change touches some teams.
use Rattle.std.proofs.Common.{◌≡◌, ℕ, ◌+◌, ◌-◌, ◌<◌, Bool, true, false, ◌&&◌, ◌||◌, nat_lt, refl, ◌∙◌, ap, arith}
use Rattle.std.specs.Prelude.{if◌then◌else◌}
use Rattle.std.specs.Bool.{beq}
use Rattle.std.proofs.lemmas.Bool.{or_parts, lt-ltb}
use Rattle.league.specs.Sets.{has}
use Rattle.league.specs.Sums.{sum_below, sum_where}
use Rattle.league.proofs.ForCallers.{sum_below_same, sum_of_pairs_same}
use Rattle.fixtures.specs.Games.{Games, round_of, IsPair, IsDoubleRoundRobin}
use Rattle.fixtures.specs.Changes.{DiffersOnlyIn, DiffersOnlyAround}
use Rattle.fixtures.proofs.ForCallers.{round_of_kept, round_of_kept_around}
use Rattle.tours.specs.Phased.{is_early, is_unphased, unphased, unphased_part}
use Rattle.tours.proofs.balances.Balances.{one, count_balance, pairs_balance}

-- where the games of two teams outside the set keep their rounds
balance_where : (g g' : Games) (teams : ℕ → Bool) → g'.teams ≡ g.teams →
    ((h a : ℕ) → IsPair g.teams h a → teams h ≡ false → teams a ≡ false → round_of g' h a ≡ round_of g h a) →
    unphased g' + unphased_part g teams ≡ unphased g + unphased_part g' teams
unfolding unphased unphased_part is_unphased
balance_where g g' teams same_size kept =
    pairs_balance g.teams g'.teams (λ i j. one (is_unphased g' i j)) (λ i j. one (is_unphased g i j))
    (λ i j. one ((teams i || teams j) && is_unphased g' i j)) (λ i j. one ((teams i || teams j) && is_unphased g i j)) same_size
    (λ i j lower in_j. count_balance (teams i || teams j) (is_unphased g' i j) (is_unphased g i j)
    (λ apart. stays i j lower in_j (or_parts (teams i) (teams j) apart)))
  where
    early_stays : (h a : ℕ) → IsPair g.teams h a → teams h ≡ false → teams a ≡ false → is_early g' h a ≡ is_early g h a
    early_stays h a pair home away =
        ap (λ (r : ℕ). nat_lt r (g'.teams - 1)) (kept h a pair home away) ∙
        ap (λ (n : ℕ). nat_lt (round_of g h a) (n - 1)) same_size

    stays : (i j : ℕ) → i < j → j < g.teams → (teams i ≡ false) × (teams j ≡ false) → is_unphased g' i j ≡ is_unphased g i j
    stays i j lower in_j out =
        ap (λ b. beq b (is_early g' j i)) (early_stays i j
        (record { home_in = omega arith; away_in = in_j; distinct = omega arith }) out.0 out.1) ∙
        ap (beq (is_early g i j)) (early_stays j i (record { home_in = in_j; away_in = omega arith; distinct = omega arith }) out.1 out.0)

pub unphased_balance : (g g' : Games) (teams rounds : ℕ → Bool) → IsDoubleRoundRobin g → IsDoubleRoundRobin g' →
    DiffersOnlyIn g g' teams rounds →
    unphased g' + unphased_part g teams ≡ unphased g + unphased_part g' teams
unphased_balance g g' teams rounds rr rr' differs =
    balance_where g g' teams differs.same_size
    (λ h a pair home away. round_of_kept g g' rr rr' differs.same_size h a pair
    (differs.same_cells h (round_of g h a) pair.home_in (rr.in_range h a pair) (ap (λ b. b && rounds (round_of g h a)) home)))

pub unphased_balance_around : (g g' : Games) (teams rounds : ℕ → Bool) → IsDoubleRoundRobin g → IsDoubleRoundRobin g' →
    DiffersOnlyAround g g' teams rounds → unphased g' + unphased_part g teams ≡ unphased g + unphased_part g' teams
unphased_balance_around g g' teams rounds rr rr' differs =
    balance_where g g' teams differs.same_size (round_of_kept_around g g' teams rounds rr rr' differs)

-- the pairs of all teams
pub unphased_of_all : (g : Games) (all : ℕ) → ((t : ℕ) → has all t ≡ nat_lt t g.teams) → unphased_part g (has all) ≡ unphased g
unfolding unphased unphased_part
unphased_of_all g all members =
    sum_of_pairs_same g.teams (λ i j. one ((has all i || has all j) && is_unphased g i j)) (λ i j. one (is_unphased g i j))
    (λ i j lower in_j. ap (λ b. one ((b || has all j) && is_unphased g i j)) (members i ∙ lt-ltb i g.teams (omega arith)))

-- those of a team with lower partners
two_tests : (b c : Bool) → ◌≡◌ {A = ℕ} (if b then (if c then 1 else 0) else 0) (if b && c then 1 else 0)
two_tests true c = refl
two_tests false c = refl

pub unphased_at_lower : (g : Games) (teams : ℕ → Bool) (lower j : ℕ) → ((low : ℕ) → low < j → has lower low ≡ (teams low || teams j)) →
    sum_where j (has lower) (λ low. if is_unphased g low j then 1 else 0) ≡
    sum_below j (λ low. if (teams low || teams j) && is_unphased g low j then 1 else 0)
unphased_at_lower g teams lower j members =
    sum_below_same j (λ low. if has lower low then (if is_unphased g low j then 1 else 0) else 0)
    (λ low. if (teams low || teams j) && is_unphased g low j then 1 else 0)
    (λ low below. two_tests (has lower low) (is_unphased g low j) ∙ ap (λ b. one (b && is_unphased g low j)) (members low below))
