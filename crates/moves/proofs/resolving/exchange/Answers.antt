use Rattle.std.proofs.Common.{rules}
use Rattle.moves.proofs.move_laws.MovesAsExchanges.{part_rounds-set, part_teams-set, is_exchange_of}
use Rattle.moves.proofs.resolving.exchange.Goals as goal

pub returns-in-Homes-clause-is_move : goal.returns-in-Homes-clause-is_move
returns-in-Homes-clause-is_move c =
    is_exchange_of c.args.schedule.now c.teams-teams.ensures.round_robin c.args.mv c.requires _ (search rules)

pub returns-in-Rounds-clause-is_move : goal.returns-in-Rounds-clause-is_move
returns-in-Rounds-clause-is_move c =
    is_exchange_of c.args.schedule.now c.teams-teams.ensures.round_robin c.args.mv c.requires _ (search rules)

pub returns-in-Teams-clause-is_move : goal.returns-in-Teams-clause-is_move
returns-in-Teams-clause-is_move c =
    is_exchange_of c.args.schedule.now c.teams-teams.ensures.round_robin c.args.mv c.requires _ (search rules)

pub returns-in-PartRounds-clause-value : goal.returns-in-PartRounds-clause-value
returns-in-PartRounds-clause-value c =
    part_rounds-set c.args.schedule.now c.teams-teams.ensures.round_robin c.args.mv c.requires _ _ _ _ c.in-PartRounds.is
    c.moved_teams.ensures.members

pub returns-in-PartRounds-clause-is_move : goal.returns-in-PartRounds-clause-is_move
returns-in-PartRounds-clause-is_move c =
    is_exchange_of c.args.schedule.now c.teams-teams.ensures.round_robin c.args.mv c.requires _
    (returns-in-PartRounds-clause-value c)

pub returns-in-PartTeams-clause-value : goal.returns-in-PartTeams-clause-value
returns-in-PartTeams-clause-value c =
    part_teams-set c.args.schedule.now c.teams-teams.ensures.round_robin c.args.mv c.requires _ _ _ _ c.in-PartTeams.is
    c.moved_rounds.ensures.members

pub returns-in-PartTeams-clause-is_move : goal.returns-in-PartTeams-clause-is_move
returns-in-PartTeams-clause-is_move c =
    is_exchange_of c.args.schedule.now c.teams-teams.ensures.round_robin c.args.mv c.requires _
    (returns-in-PartTeams-clause-value c)
