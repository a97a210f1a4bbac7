use Rattle.std.proofs.Common.{is_ok, not, sym, ◌∙◌, ap, subst, refl, arith}
use Rattle.fixtures.specs.Games.{Games}
use Rattle.fixtures.specs.Exchanges.{exchanged_by}
use Rattle.costs.specs.Costs.{cost_of, score_by}
use Rattle.fixture_board.specs.History.{moves_pin, pins_of}
use Rattle.fixture_board.specs.within.Kept.{kept_of, IsTried}
use Rattle.fixture_board.proofs.Keeps.{IsSound-kept, known_cost}
use Rattle.costs.proofs.ForCallers.{score_fits_after}
use Rattle.fixture_board.proofs.Trials.{all_pass, fails_by_score, fits_before, left_bad, left_full, left_pinned, made}
use Rattle.fixture_board.proofs.state.State.try_move.Goals as goal
use Rattle.fixture_board.proofs.state.State.try_move.Goals.{then-version-from-via-then-version-from}
use Rattle.fixture_board.proofs.state.State.try_move.Goals.{then-version-from-via-else-version-from+then-is_err}

pub returns-then-version-from-clause-tried : goal.returns-then-version-from-clause-tried
returns-then-version-from-clause-tried c = elim c.then-version-from.branch [
  | then-version-from-via-then-version-from w ↦
      left_full c.args.trial c.requires.kept (omega (arith, w.if-version-from.true, c.version.ensures, c.from.ensures))
  | then-version-from-via-else-version-from+then-is_err w ↦
      left_bad c.args.trial c.requires.kept
      (ap is_ok (sym w.check.ensures) ∙ w.is_err.ensures.negation ∙ ap not w.if-is_err.true)
]

pub returns-then-would_be_moved-clause-tried : goal.returns-then-would_be_moved-clause-tried
returns-then-would_be_moved-clause-tried c =
    let moves = c.would_be_moved.ensures _ (IsSound-kept c.requires.kept).1 c.requires.kept.pins_are ∙
    ap (λ (g : Games). moves_pin g (pins_of c.args.league.now c.args.self.now.history.items)) (sym c.exchange-exchange.ensures.is_move.is) in
    left_pinned c.args.trial c.requires.kept (sym moves ∙ c.if-would_be_moved.true)

pub score_by-before-requires : goal.score_by-before-requires
score_by-before-requires c = fits_before c.args.trial.weights c.requires.kept c.requires.weights

pub make_within-requires-clause-known : goal.make_within-requires-clause-known
make_within-requires-clause-known c = known_cost c.requires.kept

pub returns-in_err-cost-clause-tried : goal.returns-in_err-cost-clause-tried
returns-in_err-cost-clause-tried c =
    let after = exchanged_by c.args.self.now.schedule c.exchange-exchange.result in
    let fits = score_fits_after c.args.league.now c.args.self.now.schedule c.exchange-exchange.result c.args.trial.weights
    c.requires.kept.league_is (sym c.requires.kept.same_size) c.requires.weights in
    subst (IsTried c.args.league.now (kept_of c.args.self.now) _ c.args.trial) (sym c.from_residual.ensures) (record {
      fails = fails_by_score c.args.trial after c.requires.kept (sym c.exchange-exchange.ensures.is_move.is)
          (omega (
            arith,
            fits,
            c.in_err-cost.ensures.value,
            c.saturating_add.ensures,
            c.score_by-before.ensures,
            ap (score_by c.args.trial.weights) (known_cost c.requires.kept),
          ));
      same = ap (λ (g : Games). record (kept_of c.args.self.now) { games = g }) c.in_err-cost.ensures.schedule;
    })

pub returns-clause-tried : goal.returns-clause-tried
returns-clause-tried c =
    let moves = c.would_be_moved.ensures _ (IsSound-kept c.requires.kept).1 c.requires.kept.pins_are ∙
    ap (λ (g : Games). moves_pin g (pins_of c.args.league.now c.args.self.now.history.items)) (sym c.exchange-exchange.ensures.is_move.is) in
    let cost_is = c.in_ok-cost.ensures.value.0 ∙ ap (cost_of c.args.league.now) (sym c.in_ok-cost.ensures.schedule) in
    let moved_is = c.in_ok-cost.ensures.schedule ∙ sym c.exchange-exchange.ensures.is_move.is in
    let passed = all_pass c.args.trial _ c.requires.kept moved_is
    (omega (arith, c.if-version-from.false, c.version.ensures, c.from.ensures, c.requires.kept.within))
    (ap is_ok (sym c.check.ensures) ∙ c.is_err.ensures.negation ∙ ap not c.if-is_err.false)
    (sym moves ∙ c.if-would_be_moved.false)
    (omega (
      arith,
      c.in_ok-cost.ensures.value.1,
      ap (score_by c.args.trial.weights) cost_is,
      c.saturating_add.ensures,
      c.score_by-before.ensures,
      ap (score_by c.args.trial.weights) (known_cost c.requires.kept),
    )) in
    (rw c.push_reserved.ensures.items (made c.args.trial _ _ c.requires.kept passed moved_is cost_is), refl)
