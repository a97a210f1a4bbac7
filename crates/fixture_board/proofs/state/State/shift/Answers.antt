use Rattle.std.proofs.Common.{Err, refl, ◌∙◌, ap, sym, arith}
use Rattle.std.specs.Result.{result_err}
use Rattle.fixtures.specs.Games.{Games}
use Rattle.fixtures.specs.Exchanges.{exchanged_by}
use Rattle.costs.specs.Costs.{cost_of}
use Rattle.fixture_board.specs.History.{moves_pin, pins_of}
use Rattle.fixture_board.specs.within.Kept.{kept_of}
use Rattle.fixture_board.proofs.Keeps.{IsGranted-shift, IsSound-kept, known_cost}
use Rattle.fixture_board.proofs.Reasons.{IsStep-stopped, shift_stopped, shift_told, shift_judged}
use Rattle.costs.proofs.ForCallers.{score_after}
use Rattle.fixture_board.proofs.state.State.shift.Goals as goal

pub returns-in_err-check_move-clause-step : goal.returns-in_err-check_move-clause-step
returns-in_err-check_move-clause-step c =
    IsStep-stopped _ _ _ _ c.from_residual.ensures.1
    (shift_stopped c.args.proposal c.requires.kept c.check_move.ensures c.in_err-check_move.was)

pub returns-then-would_be_moved-clause-step : goal.returns-then-would_be_moved-clause-step
returns-then-would_be_moved-clause-step c =
    let moves = c.would_be_moved.ensures _ (IsSound-kept c.requires.kept).1 c.requires.kept.pins_are ∙
    ap (λ (g : Games). moves_pin g (pins_of c.args.league.now c.args.self.now.history.items)) (sym c.exchange-exchange.ensures.is_move.is) in
    let told = shift_told c.args.proposal c.requires.kept c.check_move.ensures c.in_ok-check_move.was moves in
    record {
      reason = rw c.if-would_be_moved.true at told;
      same = refl;
    }

pub make_within-requires-clause-known : goal.make_within-requires-clause-known
make_within-requires-clause-known c = known_cost c.requires.kept

pub returns-in_default-clause-step : goal.returns-in_default-clause-step
returns-in_default-clause-step c =
    let moves = c.would_be_moved.ensures _ (IsSound-kept c.requires.kept).1 c.requires.kept.pins_are ∙
    ap (λ (g : Games). moves_pin g (pins_of c.args.league.now c.args.self.now.history.items)) (sym c.exchange-exchange.ensures.is_move.is) in
    let after = exchanged_by c.args.self.now.schedule c.exchange-exchange.result in
    let small = score_after c.args.league.now c.args.self.now.schedule c.exchange-exchange.result c.requires.kept.league_is
    (sym c.requires.kept.same_size) in
    record {
      reason = shift_judged c.args.proposal _ after (cost_of c.args.league.now after) _ _ _ (Err c.limit_of-limit.result.above)
          c.requires.kept c.check_move.ensures c.in_ok-check_move.was moves c.if-would_be_moved.false refl
          (sym c.exchange-exchange.ensures.is_move.is) refl c.score-before.ensures refl
          (sym (c.limit_of-limit.ensures.above _ (omega (arith, rw (c.alike.ensures.value, c.hard_weight.ensures.value) at c.in_default.ensures.value)) (omega (arith, small))));
      same = ap (λ (g : Games). record (kept_of c.args.self.now) { games = g }) c.in_default.ensures.schedule;
    }

pub returns-in-Err-clause-step : goal.returns-in-Err-clause-step
returns-in-Err-clause-step c =
    let moves = c.would_be_moved.ensures _ (IsSound-kept c.requires.kept).1 c.requires.kept.pins_are ∙
    ap (λ (g : Games). moves_pin g (pins_of c.args.league.now c.args.self.now.history.items)) (sym c.exchange-exchange.ensures.is_move.is) in
    let cost_is = c.in-Some.ensures.value.0 ∙ ap (cost_of c.args.league.now) (sym c.in-Some.ensures.schedule) in
    let made = c.in-Some.ensures.schedule ∙ sym c.exchange-exchange.ensures.is_move.is in
    record {
      reason = shift_judged c.args.proposal _ _ _ _ _ _ _ c.requires.kept c.check_move.ensures c.in_ok-check_move.was moves
          c.if-would_be_moved.false refl made cost_is c.score-before.ensures c.score.ensures
          c.check_score.ensures ∙
          ap result_err c.in-Err.is;
      same = ap (λ (g : Games). record (kept_of c.args.self.now) { games = g })
          (c.make.ensures.made ∙ c.in-Some.ensures.back);
    }

pub returns-clause-step : goal.returns-clause-step
returns-clause-step c =
    let moves = c.would_be_moved.ensures _ (IsSound-kept c.requires.kept).1 c.requires.kept.pins_are ∙
    ap (λ (g : Games). moves_pin g (pins_of c.args.league.now c.args.self.now.history.items)) (sym c.exchange-exchange.ensures.is_move.is) in
    let cost_is = c.in-Some.ensures.value.0 ∙ ap (cost_of c.args.league.now) (sym c.in-Some.ensures.schedule) in
    let made = c.in-Some.ensures.schedule ∙ sym c.exchange-exchange.ensures.is_move.is in
    let none = shift_judged c.args.proposal _ _ _ _ _ _ _ c.requires.kept c.check_move.ensures c.in_ok-check_move.was moves
    c.if-would_be_moved.false refl made cost_is c.score-before.ensures c.score.ensures
    c.check_score.ensures ∙
    ap result_err c.in_default-check_score.is in
    rw c.push_reserved.ensures.items (IsGranted-shift c.args.proposal _ _ c.requires.kept none made cost_is)
