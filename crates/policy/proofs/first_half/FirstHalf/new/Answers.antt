use Rattle.std.proofs.Common.{◌≤◌, ℕ, ◌*◌, Fits, w64, arith}
use Rattle.std.proofs.Math.Nat.{mul-le-mul}
use Rattle.policy.proofs.first_half.FirstHalf.new.Goals as goal

product_fits : (a b : ℕ) → a ≤ 500000000000 → b ≤ 6000000 → Fits w64 (a * b)
product_fits a b fewer less =
    let most : a * b ≤ 500000000000 * 6000000 = mul-le-mul fewer less in omega arith

pub overflow_mul-loose : goal.overflow_mul-loose
overflow_mul-loose c = product_fits _ _ (omega arith) (omega arith)
