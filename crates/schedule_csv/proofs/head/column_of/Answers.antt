use Rattle.std.proofs.Common.{refl, arith}
use Rattle.schedule_csv.proofs.Parting.{few_cells}
use Rattle.schedule_csv.proofs.head.column_of.Goals as goal

pub loop-cell-init : goal.loop-cell-init
loop-cell-init c =
    let few = few_cells c.args.separator c.args.line.now in record { same = refl; few = omega (arith, few) }
