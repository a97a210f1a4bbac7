use Rattle.std.proofs.Common.{arith}
use Rattle.costs.proofs.Scores.{travel_le}
use Rattle.costs.proofs.cost_delta.travel_after.Goals as goal

pub overflow_add-result : goal.overflow_add-result
overflow_add-result c =
    omega (
      arith,
      c.requires.known,
      c.legs_of-legs.ensures.after_limit,
      travel_le c.args.league.now c.args.schedule.now c.teams.ensures.limits (omega (arith, c.teams-2.ensures.most)),
    )

pub returns : goal.returns
returns c = omega (arith, c.requires.known, c.legs_of-legs.ensures.balance)
