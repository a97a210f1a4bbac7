use Rattle.std.proofs.Common.{◌≡◌, ℕ, ◌+◌, ◌*◌, ◌∙◌, ap, arith}
use Rattle.std.proofs.Math.Nat.{mul-add}
use Rattle.costs.proofs.cost_delta.leaving_of.Goals as goal

priced : (price near new before old after : ℕ) → price ≡ near → new + before ≡ old + after →
    near * new + price * before ≡ near * old + price * after
priced price near new before old after is balance =
    rw is (omega (arith, mul-add near new before, mul-add near old after, ap (λ n. near * n) balance))

pub returns-clause-balance : goal.returns-clause-balance
returns-clause-balance c =
    priced c.from-near.result _ _ c.moved_of-moved.result.before _ c.moved_of-moved.result.after
    (c.from-near.ensures ∙ c.near.ensures.value) c.moved_of-moved.ensures.balance
