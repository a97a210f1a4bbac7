use Rattle.tours.proofs.balances.TravelBalance.{travel_balance}
use Rattle.tours.proofs.balances.StreaksBalance.{streaks_balance}
use Rattle.tours.proofs.balances.RepeatsBalance.{repeats_balance}
use Rattle.tours.proofs.balances.PhasedBalance.{unphased_balance}
use Rattle.tours.proofs.laws.parts_balance.Goals as goal

pub returns-clause-travel : goal.returns-clause-travel
returns-clause-travel c = travel_balance

pub returns-clause-streaks : goal.returns-clause-streaks
returns-clause-streaks c = streaks_balance

pub returns-clause-repeats : goal.returns-clause-repeats
returns-clause-repeats c = repeats_balance

pub returns-clause-unphased : goal.returns-clause-unphased
returns-clause-unphased c = unphased_balance
