use Rattle.std.proofs.Common.{refl}
use Rattle.fixture_board.proofs.Keeps.{IsGranted-pin, IsSound-kept}
use Rattle.fixture_board.proofs.Reasons.{IsStep-stopped, pin_stopped, pin_told}
use Rattle.fixture_board.proofs.state.State.pin.Goals as goal

pub returns-in_err-check_game-clause-step : goal.returns-in_err-check_game-clause-step
returns-in_err-check_game-clause-step c =
    λ league kept. IsStep-stopped league _ _ _ c.from_residual.ensures.1
    (pin_stopped c.args.version c.args.game kept c.check_game.ensures.reason c.in_err-check_game.was)

pub returns-then-branch-clause-step : goal.returns-then-branch-clause-step
returns-then-branch-clause-step c =
    λ league kept.
    let pinned = c.in_ok-check_game.ensures.pinned _ (IsSound-kept kept).1 kept.pins_are in
    let told = pin_told c.args.version c.args.game kept c.check_game.ensures.reason c.in_ok-check_game.was pinned in
    record { reason = rw c.if-branch.true at told; same = refl }

pub returns-clause-step : goal.returns-clause-step
returns-clause-step c =
    λ league kept.
    let pinned = c.in_ok-check_game.ensures.pinned _ (IsSound-kept kept).1 kept.pins_are in
    let told = pin_told c.args.version c.args.game kept c.check_game.ensures.reason c.in_ok-check_game.was pinned in
    rw (c.push_reserved.ensures.items, c.pin.ensures)
    (IsGranted-pin c.args.version c.args.game kept (rw c.if-branch.false at told))
