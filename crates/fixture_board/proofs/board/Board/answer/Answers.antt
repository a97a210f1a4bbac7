use Rattle.std.proofs.Common.{ℕ, length, ◌∙◌, ap, arith}
use Rattle.fixture_board.specs.declared.reply.Reply.TheVariants.{Done, No}
use Rattle.fixture_board.specs.within.Kept.{Kept}
use Rattle.fixture_board.specs.Record.{book}
use Rattle.fixture_board.proofs.Reasons.{refused_call, granted_call}
use Rattle.fixture_board.proofs.board.Board.answer.Goals as goal

pub returns-in-Err-clause-reply : goal.returns-in-Err-clause-reply
returns-in-Err-clause-reply c =
    ap (λ (n : ℕ). No n c.in-Err.why) c.version-at.ensures ∙
    (refused_call _ _ _ _ c.args.caller c.args.ask _ c.in-Err.ensures.step c.self.view_is).0

pub returns-in-Err-clause-history : goal.returns-in-Err-clause-history
returns-in-Err-clause-history c = (refused_call _ _ _ _ c.args.caller c.args.ask _ c.in-Err.ensures.step c.self.view_is).1

pub enter-requires-clause-total : goal.enter-requires-clause-total
enter-requires-clause-total c =
    let granted = rw c.in_default.is at c.step.ensures.step in
    omega (arith, (granted.kept 0).small)

pub returns-clause-reply : goal.returns-clause-reply
returns-clause-reply c =
    let granted = rw c.in_default.is at c.step.ensures.step in
    ap (λ (n : ℕ). Done n c.enter.new.self.cost) c.version.ensures ∙
    ap (λ (k : Kept). Done (length k.history) k.cost) c.enter.ensures.entered ∙
    (rw c.change-change.ensures (granted_call _ _ _ _ c.args.caller c.args.ask granted c.self.view_is).0)

pub returns-clause-history : goal.returns-clause-history
returns-clause-history c =
    let granted = rw c.in_default.is at c.step.ensures.step in
    ap (λ (k : Kept). book c.self.inside.league k.room k.history) c.enter.ensures.entered ∙
    (rw c.change-change.ensures (granted_call _ _ _ _ c.args.caller c.args.ask granted c.self.view_is).1)
