use Rattle.std.proofs.Common.{◌∙◌, ap}
use Rattle.costs.specs.Costs.{cost_of}
use Rattle.fixture_board.proofs.Keeps.{FollowsHistory-start}
use Rattle.fixture_board.proofs.state.State.start.Goals as goal

pub returns-clause-kept : goal.returns-clause-kept
returns-clause-kept c =
    let cost_is = c.cost_of-cost.ensures.value ∙ ap (cost_of c.args.league.now) c.in_ok-schedule.ensures.games in
    rw (
      c.in_ok-history.ensures.items,
      c.in_ok-changes.ensures.items,
      c.keep_best.ensures.best,
      c.keep_best.ensures.schedule,
      c.in_ok-schedule.ensures.games,
    )
    (FollowsHistory-start c.args.league.now c.args.room c.cost_of-cost.result c.in_ok-pins.pins _ c.cost_of-cost.ensures.limits c.requires
    cost_is c.in_ok-pins.ensures)
