use Rattle.std.proofs.Common.{arith}
use Rattle.byte_streams.proofs.Pieces.{Stops-writes}
use Rattle.text_lines.proofs.ForCallers.{none_added, one_added, one_stopped}
use Rattle.schedule_texts.proofs.Sheets.{sheet_numbered}
use Rattle.schedule_texts.proofs.faults.write_bad_lines.Goals as goal

pub loop-line-init : goal.loop-line-init
loop-line-init g c = record {
  written = rw (sheet_numbered _ _ c.of-sheet.ensures) (none_added _ _);
  few = omega (arith, c.of-sheet.ensures.few);
}

pub loop-line-preserved : goal.loop-line-preserved
loop-line-preserved g c =
    let takes = (c.in-Some.ensures).some in
    let shorter = takes.shorter in
    record {
      written =
          one_added _ _ _ (rw takes.lines_are at c.loop-line.invariant.written) (rw c.of.ensures at c.in_ok-write_bad_line.ensures.ok);
      few = omega (arith, c.loop-line.invariant.few);
    }

pub returns-in_err-write_bad_line : goal.returns-in_err-write_bad_line
returns-in_err-write_bad_line g c =
    let takes = (c.in-Some.ensures).some in
    Stops-writes c.from_residual.ensures.0
    (one_stopped _ _ _ (rw takes.lines_are at c.loop-line.invariant.written) (rw c.of.ensures at c.in_err-write_bad_line.ensures.err))
