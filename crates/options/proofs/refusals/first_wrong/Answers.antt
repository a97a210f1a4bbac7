use Rattle.std.proofs.Common.{◌∙◌, ap, not, sym}
use Rattle.options.proofs.Keeping.{wrong_here, wrong_later}
use Rattle.options.proofs.refusals.first_wrong.Goals as goal

pub returns-then-is_none : goal.returns-then-is_none
returns-then-is_none c = sym (c.loop-text.invariant
    ∙ wrong_here c.args.texts.now c.loop-text.text-index _ c.loop-text-test.true ((rw c.game_of_text.ensures at c.is_none.ensures) ∙ ap not c.if-is_none.true))

pub loop-text-preserved : goal.loop-text-preserved
loop-text-preserved c = c.loop-text.invariant
    ∙ wrong_later c.args.texts.now c.loop-text.text-index _ c.loop-text-test.true ((rw c.game_of_text.ensures at c.is_none.ensures) ∙ ap not c.if-is_none.false)
