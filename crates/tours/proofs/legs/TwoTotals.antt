-- Loops over the numbers of a set that sum up two terms of each: one as it is, and one after an exchange.
use Rattle.std.proofs.Common.{◌≡◌, ℕ, ◌+◌, ◌<◌, ◌≤◌, ◌==◌, not, true, refl, sym, ◌∙◌, ap, arith}
use Rattle.std.proofs.lemmas.Bool.{and_parts}
use Rattle.league.specs.Sets.{has, IsBelow}
use Rattle.league.specs.within.Sets.{IsWithoutLowest}
use Rattle.tours.specs.within.Delta.{AreSums}
use Rattle.league.proofs.ForCallers.{IsSumWithout, sum_without_none, sum_without_more, sum_without_all, lowest_below}

-- the totals are those of the numbers that aren't left
pub record AreTotals (n set left limit x y : ℕ) (f g : ℕ → ℕ) : Type 0 where
  pub before : IsSumWithout n set left x limit f
  pub after : IsSumWithout n set left y limit g
  pub of_set : (k : ℕ) → has left k ≡ true → has set k ≡ true

pub totals_begun : (n set left limit : ℕ) (f g : ℕ → ℕ) → IsBelow n left → left ≡ set → AreTotals n set left limit 0 0 f g
totals_begun n set left limit f g below whole = record {
  before = sum_without_none n set left limit f below whole;
  after = sum_without_none n set left limit g below whole;
  of_set = λ k is. ap (λ s. has s k) (sym whole) ∙ is;
}

-- the number that comes next is of the set
pub next_in : (n set left lowest rest limit x y : ℕ) (f g : ℕ → ℕ) → AreTotals n set left limit x y f g →
    IsWithoutLowest left lowest rest → (lowest < n) × (has set lowest ≡ true)
next_in n set left lowest rest limit x y f g so_far taken =
    (lowest_below n left lowest rest so_far.before.below taken, so_far.of_set lowest taken.in_set)

pub totals_more : (n set left lowest rest limit x y more_x more_y : ℕ) (f g : ℕ → ℕ) → AreTotals n set left limit x y f g →
    IsWithoutLowest left lowest rest → more_x ≡ f lowest → more_y ≡ g lowest → more_x ≤ limit → more_y ≤ limit →
    AreTotals n set rest limit (x + more_x) (y + more_y) f g
totals_more n set left lowest rest limit x y more_x more_y f g so_far taken is_f is_g x_small y_small = record {
  before = sum_without_more n set left lowest rest x more_x limit f so_far.before taken is_f x_small;
  after = sum_without_more n set left lowest rest y more_y limit g so_far.after taken is_g y_small;
  of_set = λ k is. so_far.of_set k (and_parts (has left k) (not (k == lowest)) (sym (taken.others k) ∙ is)).0;
}

-- if none is left, the totals are those of the set
pub totals_ended : (n set left limit x y : ℕ) (f g : ℕ → ℕ) → AreTotals n set left limit x y f g → left ≡ 0 →
    AreSums n set limit x y f g
totals_ended n set left limit x y f g so_far none_left = record {
  before = sum_without_all n set left x limit (has set) f so_far.before none_left (λ k below. refl);
  after = sum_without_all n set left y limit (has set) g so_far.after none_left (λ k below. refl);
  before_limit = omega (arith, so_far.before.within);
  after_limit = omega (arith, so_far.after.within);
}
