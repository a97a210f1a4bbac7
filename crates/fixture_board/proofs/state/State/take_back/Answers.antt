use Rattle.std.proofs.Common.{sym, ◌∙◌, ap}
use Rattle.fixtures.specs.Games.{Games}
use Rattle.costs.specs.Costs.{cost_of}
use Rattle.costs.specs.declared.cost.Cost.{Cost}
use Rattle.fixture_board.specs.declared.state.State.{State}
use Rattle.fixture_board.proofs.state.State.take_back.Goals as goal

pub returns-in-Shift-clause-state : goal.returns-in-Shift-clause-state
returns-in-Shift-clause-state c =
    let kept : State = c.args.self.now in
    let made = c.make_at_cost-self.ensures.made ∙ sym c.exchange-exchange.ensures.is_move.is in
    let with_cost : (g : Games) (cost : Cost) → State =
    λ g cost. record kept { schedule = g; cost = cost; evaluator = record kept.evaluator { value = c.make_at_cost-self.new.evaluator } } in
    rw c.in-Shift.is
    (ap (λ (cost : Cost). with_cost c.make_at_cost-self.new.schedule cost) c.make_at_cost-self.ensures.value ∙
    ap (λ (games : Games). with_cost games (cost_of c.args.league.now games)) made)
