use Rattle.fixtures.proofs.ForCallers.{of_rounds}
use Rattle.tours.proofs.delta.repeats_of.Goals as goal

pub repeats_of_rounds-requires-clause-closed : goal.repeats_of_rounds-requires-clause-closed
repeats_of_rounds-requires-clause-closed c =
    (of_rounds c.args.schedule.now c.args.exchange.now c.requires _ _ _ c.in-Rounds.is).closed
