use Rattle.std.proofs.Common.{◌∙◌, sym, arith}
use Rattle.std.specs.Str.Lines.{lines}
use Rattle.script_hints.proofs.Sheets.{hint_of_sheet}
use Rattle.script_hints.proofs.schedule.first_hint.Goals as goal

pub loop-line-preserved : goal.loop-line-preserved
loop-line-preserved c =
    let takes = c.in-Some.ensures.some in
    let so_far = c.loop-line.invariant in
    record {
      left = rw (takes.lines_are, ← c.hint_so_far-hint.ensures) at so_far.left;
      few = omega (arith, takes.shorter, so_far.few);
    }

pub returns : goal.returns
returns c = sym (rw c.in_default.ensures.none at c.loop-line.invariant.left) ∙ hint_of_sheet (lines c.args.text.now)
