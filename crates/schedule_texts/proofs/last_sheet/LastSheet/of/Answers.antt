use Rattle.std.proofs.Common.{sym, ◌∙◌, arith}
use Rattle.schedule_texts.proofs.Sheets.{seek, seek_begun}
use Rattle.schedule_texts.proofs.last_sheet.LastSheet.of.Goals as goal

pub loop-line-init : goal.loop-line-init
loop-line-init c = record { sought = seek _; few = omega arith; sheet_few = omega arith }

pub loop-line-preserved-then-begins_sheet : goal.loop-line-preserved-then-begins_sheet
loop-line-preserved-then-begins_sheet c =
    let takes = (c.in-Some.ensures).some in
    let so_far = c.loop-line.invariant in
    let begins = sym c.begins_sheet.ensures ∙ c.if-begins_sheet.true in
    record { sought = seek_begun _ _ _ _ _ _ begins (rw takes.lines_are at so_far.sought); few = omega (arith, takes.shorter, so_far.few); sheet_few = omega (arith, takes.shorter, so_far.few) }
