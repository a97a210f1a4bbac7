use Rattle.std.proofs.Common.{ℕ, ◌+◌, ◌∙◌, ap}
use Rattle.fixture_board.specs.declared.reply.Reply.TheVariants.{Done, No}
use Rattle.fixture_board.specs.within.Kept.{kept_of}
use Rattle.fixture_board.proofs.Foretold.{foretold_done, foretold_no}
use Rattle.fixture_board.proofs.board.Board.would_answer.Goals as goal

pub returns-clause-reply : goal.returns-clause-reply
returns-clause-reply c =
    ap (λ (n : ℕ). Done (n + 1) c.in-Ok.cost) c.version-at.ensures ∙
    foretold_done c.self.inside.league (kept_of c.self.inside.state) _ c.args.proposal _ c.in-Ok.ensures.told c.self.view_is

pub returns-in-Err-clause-reply : goal.returns-in-Err-clause-reply
returns-in-Err-clause-reply c =
    ap (λ (n : ℕ). No n c.in-Err.why) c.version-at.ensures ∙
    foretold_no c.self.inside.league (kept_of c.self.inside.state) _ c.args.proposal _ c.in-Err.ensures.told c.self.view_is
