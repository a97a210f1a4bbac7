use Rattle.std.proofs.Common.{◌≡◌, List, length, sym, ◌∙◌, ap, append-nil, arith}
use Rattle.std.proofs.lemmas.Bool.{eq-eqb}
use Rattle.fixture_board.specs.declared.change.Change.{Change}
use Rattle.fixture_board.specs.within.Kept.{kept_of}
use Rattle.fixture_board.proofs.Keeps.{known_cost, CanTakeBack-last, IsGranted-undo}
use Rattle.fixture_board.proofs.Reasons.{IsStep-stopped, undo_stopped, undo_told, some_last}
use Rattle.fixture_board.proofs.state.State.undo.Goals as goal

pub returns-in_err-check_version-clause-step : goal.returns-in_err-check_version-clause-step
returns-in_err-check_version-clause-step c =
    IsStep-stopped _ _ _ _ c.from_residual.ensures.1
    (undo_stopped c.args.version c.requires.kept c.check_version.ensures c.in_err-check_version.was)

pub returns-in_default-clause-step : goal.returns-in_default-clause-step
returns-in_default-clause-step c =
    let few : length c.args.self.now.changes.items ≡ 0 = omega (arith, c.in_default.ensures.cases) in
    record {
      reason = undo_told c.args.version c.requires.kept c.check_version.ensures c.in_ok-check_version.was (eq-eqb _ 0 few);
      same = ap (λ (changes : List Change). record (kept_of c.args.self.now) { changes = changes })
          (sym (c.in_default.ensures.items ∙ append-nil _));
    }

pub take_back-requires-clause-last : goal.take_back-requires-clause-last
take_back-requires-clause-last c = CanTakeBack-last _ _ c.requires.kept c.in-Some.ensures.items

pub take_back-requires-clause-known : goal.take_back-requires-clause-known
take_back-requires-clause-known c = known_cost c.requires.kept

pub returns-clause-step : goal.returns-clause-step
returns-clause-step c =
    let told = undo_told c.args.version c.requires.kept c.check_version.ensures c.in_ok-check_version.was
    (some_last _ _ _ c.in-Some.ensures.items) in
    rw c.take_back.ensures.state (IsGranted-undo c.args.version _ _ c.requires.kept told c.in-Some.ensures.items)
