-- What the legs of a tour are shortened by is the price of each set, as often as the tour leads into it.
use Rattle.std.proofs.Common.{◌≡◌, ℕ, zero, suc, ◌+◌, ◌*◌, ◌<◌, ◌≤◌, ◌==◌, not, Bool, true, false, if◌then◌else◌, List, slice_index}
use Rattle.std.proofs.Common.{refl, sym, ◌∙◌, ap, arith}
use Rattle.sets.specs.Sums.{sum_below, count_where}
use Rattle.sets.proofs.ForCallers.{sum_below_same, sum_below_swap, sum_below_add, sum_below_le_each}
use Rattle.bounds.specs.within.Prices.{leads_into, price_into, discount}
use Rattle.bounds.proofs.Ways.{leads_away, IsWay, all_games}
use Rattle.bounds.proofs.Relaxed.{way}

-- a number each time that a test passes
pub sum_of_passes : (n x : ℕ) (test : ℕ → Bool) → sum_below n (λ k. if test k then x else 0) ≡ x * count_where n test
unfolding sum_below
sum_of_passes zero x test = omega arith
sum_of_passes (suc n) x test = omega (arith, sum_of_passes n x test, once (test n))
  where
    once : (b : Bool) → (if b then x else 0) ≡ x * (if b then 1 else 0)
    once true = omega arith
    once false = omega arith

pub sum_below_times : (n x : ℕ) (f : ℕ → ℕ) → sum_below n (λ k. x * f k) ≡ x * sum_below n f
unfolding sum_below
sum_below_times zero x f = omega arith
sum_below_times (suc n) x f = omega (arith, sum_below_times n x f)

-- how often a tour leads into a set, by its stops
abbrev pub entries_by : ℕ → (ℕ → ℕ) → ℕ → ℕ
entries_by legs s set = count_where legs (λ r. leads_into set (s r) (s (r + 1)))

-- the discounts of all legs
pub discounts_paid : (sets prices : List ℕ) (m legs : ℕ) (s : ℕ → ℕ)
    → sum_below legs (λ r. discount sets prices m (s r) (s (r + 1))) ≡
    sum_below m (λ k. slice_index prices k * entries_by legs s (slice_index sets k))
unfolding discount
discounts_paid sets prices m legs s =
    sum_below_swap legs m (λ r k. price_into sets prices (s r) (s (r + 1)) k) ∙
    sum_below_same m (λ k. sum_below legs (λ r. price_into sets prices (s r) (s (r + 1)) k))
    (λ k. slice_index prices k * entries_by legs s (slice_index sets k))
    (λ k below. sum_of_passes legs (slice_index prices k) (λ r. leads_into (slice_index sets k) (s r) (s (r + 1))))

-- legs that with their discounts are the distances, with each leg to an opponent longer
pub way_and_paid : (n home most rounds scale longer : ℕ) (distance leg : ℕ → ℕ → ℕ) (sets prices : List ℕ) (m : ℕ) (s : ℕ → ℕ)
    → IsWay n home most rounds s
    → ((from to : ℕ) → from < n → to < n →
    leg from to + discount sets prices m from to ≡ scale * distance from to + (if to == home then 0 else longer))
    → (opponents : ℕ) → opponents + 1 ≡ n
    → way leg s (rounds + 1) + sum_below m (λ k. slice_index prices k * entries_by (rounds + 1) s (slice_index sets k)) ≡
    scale * way distance s (rounds + 1) + longer * opponents
way_and_paid n home most rounds scale longer distance leg sets prices m s is each opponents so_many =
    ap (λ x. way leg s legs + x) (sym (discounts_paid sets prices m legs s)) ∙
    sym (sum_below_add legs (λ r. leg (s r) (s (r + 1))) (λ r. discount sets prices m (s r) (s (r + 1)))) ∙
    sum_below_same legs (λ r. leg (s r) (s (r + 1)) + discount sets prices m (s r) (s (r + 1)))
    (λ r. scale * distance (s r) (s (r + 1)) + (if leads_away home s r then longer else 0))
    (λ r in_r. each (s r) (s (r + 1)) (is.below r) (is.below (r + 1)) ∙
    ap (λ x. scale * distance (s r) (s (r + 1)) + x) (other_way (s (r + 1) == home))) ∙
    sum_below_add legs (λ r. scale * distance (s r) (s (r + 1))) (λ r. if leads_away home s r then longer else 0) ∙
    omega (
      arith,
      sum_below_times legs scale (λ r. distance (s r) (s (r + 1))),
      sum_of_passes legs longer (leads_away home s),
      ap (λ x. longer * x) all,
    )
  where
    legs : ℕ
    legs = rounds + 1

    other_way : (b : Bool) → (if b then 0 else longer) ≡ (if not b then longer else 0)
    other_way true = refl
    other_way false = refl

    all : count_where legs (leads_away home s) ≡ opponents
    all = omega (arith, all_games n home rounds s is.home_in is.visits)

-- at least what is paid for each set as often as it is entered at least
pub paid_within : (prices entries : List ℕ) (m : ℕ) (entered : ℕ → ℕ) → ((k : ℕ) → k < m → slice_index entries k ≤ entered k)
    → sum_below m (λ k. slice_index prices k * slice_index entries k) ≤ sum_below m (λ k. slice_index prices k * entered k)
paid_within prices entries m entered each =
    sum_below_le_each m (λ k. slice_index prices k * slice_index entries k) (λ k. slice_index prices k * entered k)
    (λ k below. grind (arith, each k below))
