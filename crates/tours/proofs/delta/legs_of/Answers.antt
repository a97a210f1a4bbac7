use Rattle.fixtures.proofs.ForCallers.{of_rounds}
use Rattle.tours.proofs.delta.legs_of.Goals as goal

pub legs_of_rounds-requires-clause-closed : goal.legs_of_rounds-requires-clause-closed
legs_of_rounds-requires-clause-closed c =
    (of_rounds c.args.schedule.now c.args.exchange.now c.requires.can_be_made _ _ _ c.in-Rounds.is).closed
