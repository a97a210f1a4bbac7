use Rattle.moves.proofs.move_laws.MovesAsExchanges.{each-exchange}
use Rattle.moves.proofs.laws.moves_are_exchanges.Goals as goal

pub returns : goal.returns
returns c = λ g mv rr checked. (each-exchange g mv rr checked).is
