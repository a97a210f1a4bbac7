-- The discount of a leg, one set more at a time.
use Rattle.std.proofs.Common.{◌≡◌, ℕ, ◌+◌, ◌<◌, ◌≤◌, List, length, slice_index, arith}
use Rattle.sets.specs.Sums.{sum_below}
use Rattle.sets.proofs.ForCallers.{sum_below_none, sum_below_more, sum_below_le_each, if_le}
use Rattle.bounds.specs.within.Prices.{leads_into, price_into, discount}
use Rattle.bounds.proofs.Ways.{sum_below_longer}

pub discount_none : (sets prices : List ℕ) (from to : ℕ) → discount sets prices 0 from to ≡ 0
unfolding discount
discount_none sets prices from to = sum_below_none (price_into sets prices from to)

pub discount_more : (sets prices : List ℕ) (m from to : ℕ)
    → discount sets prices (m + 1) from to ≡ discount sets prices m from to + price_into sets prices from to m
unfolding discount
discount_more sets prices m from to = sum_below_more m (price_into sets prices from to)

-- with the next price it is at most all prices together
pub discount_room : (sets prices : List ℕ) (m from to : ℕ) → m < length prices
    → discount sets prices m from to + slice_index prices m ≤ sum_below (length prices) (slice_index prices)
unfolding discount
discount_room sets prices m from to in_m =
    omega (
      arith,
      sum_below_le_each m (price_into sets prices from to) (slice_index prices)
          (λ k below. if_le (leads_into (slice_index sets k) from to) (slice_index prices k) (slice_index prices k) (λ _. omega arith)),
      sum_below_more m (slice_index prices),
      sum_below_longer (m + 1) (length prices) (slice_index prices) (omega arith),
    )
