use Rattle.std.proofs.Common.{refl, ◌∙◌, ap, sym}
use Rattle.std.specs.Result.{result_err}
use Rattle.fixtures.specs.Games.{Games}
use Rattle.fixture_board.specs.History.{moves_pin, pins_of}
use Rattle.fixture_board.specs.within.Kept.{kept_of}
use Rattle.fixture_board.proofs.Foretold.{IsForetold-stopped, cost_after_move}
use Rattle.fixture_board.proofs.Keeps.{IsSound-kept, known_cost}
use Rattle.fixture_board.proofs.Reasons.{shift_stopped, shift_told, shift_judged}
use Rattle.fixture_board.proofs.state.State.would_shift.Goals as goal

pub returns-in_err-check_move-clause-told : goal.returns-in_err-check_move-clause-told
returns-in_err-check_move-clause-told c =
    IsForetold-stopped c.args.league.now (kept_of c.args.self.now) c.args.proposal _ c.from_residual.ensures.1
    (shift_stopped c.args.proposal c.requires.kept c.check_move.ensures c.in_err-check_move.was)

pub returns-then-would_be_moved-clause-told : goal.returns-then-would_be_moved-clause-told
returns-then-would_be_moved-clause-told c =
    let moves = c.would_be_moved.ensures _ (IsSound-kept c.requires.kept).1 c.requires.kept.pins_are ∙
    ap (λ (g : Games). moves_pin g (pins_of c.args.league.now c.args.self.now.history.items)) (sym c.exchange-exchange.ensures.is_move.is) in
    let told = shift_told c.args.proposal c.requires.kept c.check_move.ensures c.in_ok-check_move.was moves in
    rw c.if-would_be_moved.true at told

pub make_at_cost-cost-requires-clause-known : goal.make_at_cost-cost-requires-clause-known
make_at_cost-cost-requires-clause-known c = known_cost c.requires.kept

pub returns-in_err-check_score-clause-same : goal.returns-in_err-check_score-clause-same
returns-in_err-check_score-clause-same c =
    ap (λ (g : Games). record (kept_of c.args.self.now) { games = g }) (c.make.ensures.made ∙ c.make_at_cost-cost.ensures.back)

pub returns-in_err-check_score-clause-told : goal.returns-in_err-check_score-clause-told
returns-in_err-check_score-clause-told c =
    let moves = c.would_be_moved.ensures _ (IsSound-kept c.requires.kept).1 c.requires.kept.pins_are ∙
    ap (λ (g : Games). moves_pin g (pins_of c.args.league.now c.args.self.now.history.items)) (sym c.exchange-exchange.ensures.is_move.is) in
    let made = c.make_at_cost-cost.ensures.made ∙ sym c.exchange-exchange.ensures.is_move.is in
    IsForetold-stopped c.args.league.now (kept_of c.args.self.now) c.args.proposal _ c.from_residual-in_err-check_score.ensures.1
    (shift_judged c.args.proposal _ _ _ _ _ _ _ c.requires.kept c.check_move.ensures c.in_ok-check_move.was moves
    c.if-would_be_moved.false refl made c.make_at_cost-cost.ensures.value c.score-before.ensures c.score.ensures
    c.check_score.ensures ∙
    ap result_err c.in_err-check_score.was)

pub returns-clause-same : goal.returns-clause-same
returns-clause-same c =
    ap (λ (g : Games). record (kept_of c.args.self.now) { games = g }) (c.make.ensures.made ∙ c.make_at_cost-cost.ensures.back)

pub returns-clause-told : goal.returns-clause-told
returns-clause-told c =
    let moves = c.would_be_moved.ensures _ (IsSound-kept c.requires.kept).1 c.requires.kept.pins_are ∙
    ap (λ (g : Games). moves_pin g (pins_of c.args.league.now c.args.self.now.history.items)) (sym c.exchange-exchange.ensures.is_move.is) in
    let made = c.make_at_cost-cost.ensures.made ∙ sym c.exchange-exchange.ensures.is_move.is in (
      shift_judged c.args.proposal _ _ _ _ _ _ _ c.requires.kept c.check_move.ensures c.in_ok-check_move.was moves
          c.if-would_be_moved.false refl made c.make_at_cost-cost.ensures.value c.score-before.ensures c.score.ensures
          c.check_score.ensures ∙
          ap result_err c.in_ok-check_score.was,
      cost_after_move c.args.proposal _ _ c.requires.kept made c.make_at_cost-cost.ensures.value,
    )
