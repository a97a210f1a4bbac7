use Rattle.std.proofs.Common.{Some, ◌∙◌, ap, arith}
use Rattle.fixture_board.specs.within.Kept.{Kept}
use Rattle.fixture_board.specs.Record.{book}
use Rattle.fixture_board.proofs.Trials.{left_call, made_call}
use Rattle.fixture_board.proofs.board.Board.try_move.Goals as goal

pub returns-in_err-cost-clause-cost : goal.returns-in_err-cost-clause-cost
returns-in_err-cost-clause-cost c =
    c.from_residual.ensures ∙ (left_call _ _ _ _ c.args.caller c.args.trial c.in_err-cost.ensures.tried c.self.view_is).0

pub returns-in_err-cost-clause-history : goal.returns-in_err-cost-clause-history
returns-in_err-cost-clause-history c = (left_call _ _ _ _ c.args.caller c.args.trial c.in_err-cost.ensures.tried c.self.view_is).1

pub enter-requires-clause-total : goal.enter-requires-clause-total
enter-requires-clause-total c = omega (arith, (c.in_ok-cost.ensures.tried.0.kept 0).small)

pub returns-clause-cost : goal.returns-clause-cost
returns-clause-cost c =
    ap Some c.in_ok-cost.ensures.tried.1 ∙ (made_call _ _ _ _ c.args.caller c.args.trial c.in_ok-cost.ensures.tried.0 c.self.view_is).0

pub returns-clause-history : goal.returns-clause-history
returns-clause-history c =
    ap (λ (k : Kept). book c.self.inside.league k.room k.history) c.enter.ensures.entered ∙
    (made_call _ _ _ _ c.args.caller c.args.trial c.in_ok-cost.ensures.tried.0 c.self.view_is).1
