use Rattle.text_lines.proofs.Splitting.{ends_without}
use Rattle.text_lines.proofs.input.split_at_line.Goals as goal

pub returns-clause-before : goal.returns-clause-before
returns-clause-before c =
    (ends_without c.args.word.now c.args.input.now c.loop-line.start c.requires (rw (c.in_default.ensures).none at c.loop-line.invariant)).0

pub returns-clause-after : goal.returns-clause-after
returns-clause-after c =
    (ends_without c.args.word.now c.args.input.now c.loop-line.start c.requires (rw (c.in_default.ensures).none at c.loop-line.invariant)).1
