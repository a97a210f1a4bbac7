use Rattle.fixtures.proofs.ForCallers.{of_rounds}
use Rattle.tours.proofs.delta.streaks_of.Goals as goal

pub streaks_of_rounds-requires-clause-closed : goal.streaks_of_rounds-requires-clause-closed
streaks_of_rounds-requires-clause-closed c =
    (of_rounds c.args.schedule.now c.args.exchange.now c.requires.can_be_made _ _ _ c.in-Rounds.is).closed
