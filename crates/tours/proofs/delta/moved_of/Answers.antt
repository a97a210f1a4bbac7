use Rattle.std.proofs.Common.{◌≡◌, ◌+◌, sym, subst}
use Rattle.fixtures.specs.Exchanges.{exchanged_by}
use Rattle.tours.specs.Moved.{moved_games}
use Rattle.fixtures.proofs.ForCallers.{of_rounds}
use Rattle.tours.proofs.delta.moved_of.Goals as goal

pub moved_of_rounds-requires-clause-closed : goal.moved_of_rounds-requires-clause-closed
moved_of_rounds-requires-clause-closed c =
    (of_rounds c.args.schedule.now c.args.exchange.now c.requires.can_be_made _ _ _ c.in-Rounds.is).closed

pub returns-in-Rounds-clause-balance : goal.returns-in-Rounds-clause-balance
returns-in-Rounds-clause-balance c =
    subst (λ x. moved_games c.args.league.now (exchanged_by c.args.schedule.now x) + c.moved_of_rounds.result.before ≡
    moved_games c.args.league.now c.args.schedule.now + c.moved_of_rounds.result.after)
    (sym c.in-Rounds.is) c.moved_of_rounds.ensures.balance

pub returns-in-Teams-clause-balance : goal.returns-in-Teams-clause-balance
returns-in-Teams-clause-balance c =
    subst (λ x. moved_games c.args.league.now (exchanged_by c.args.schedule.now x) + c.moved_of_teams.result.before ≡
    moved_games c.args.league.now c.args.schedule.now + c.moved_of_teams.result.after)
    (sym c.in-Teams.is) c.moved_of_teams.ensures.balance
