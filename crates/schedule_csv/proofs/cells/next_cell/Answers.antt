use Rattle.std.proofs.Common.{rules}
use Rattle.schedule_csv.proofs.Parting.{all_taken, taken}
use Rattle.schedule_csv.proofs.cells.next_cell.Goals.{then-length-line, else-length-line}
use Rattle.schedule_csv.proofs.cells.next_cell.Goals as goal

pub returns-clause-some : goal.returns-clause-some
returns-clause-some c =
    let line = c.in_ok-line.line.now in
    let cell = c.trimmed.result.now in
    let count = c.cell_length-length.result in
    let value = c.cell_length-length.ensures.value in
    elim c.if-length-line.branch [
      | then-length-line w ↦
          rw (c.in_ok-line.was, w.rest-is) (taken c.args.separator line cell count value c.trimmed.ensures w.split_at.result.1.now (search rules)
          (search rules))
      | else-length-line w ↦
          rw (c.in_ok-line.was, w.rest-is) (all_taken c.args.separator line cell count value c.trimmed.ensures (search rules))
    ]
