use Rattle.rules.proofs.balances.PartsBalance.{deviation_balance}
use Rattle.rules.proofs.laws.deviations_balance.Goals as goal

pub returns : goal.returns
returns c = λ g g' main rounds sides body rr rr' is differs flipped. deviation_balance g g' rr rr' main rounds sides differs flipped body is
