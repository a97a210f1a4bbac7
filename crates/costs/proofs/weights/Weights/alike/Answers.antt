use Rattle.std.proofs.Common.{refl, arith}
use Rattle.costs.proofs.weights.Weights.alike.Goals as goal

pub returns : goal.returns
returns c = record { value = refl; are = λ positive. record { positive = positive; fit = omega arith } }
