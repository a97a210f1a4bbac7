use Rattle.std.proofs.Common.{ap, arith, length}
use Rattle.schedule_csv.proofs.Parting.{few_cells}
use Rattle.league_csv.proofs.names.team_names.Goals as goal

pub names_from-requires-in-Some : goal.names_from-requires-in-Some
names_from-requires-in-Some c =
    let few = few_cells c.args.separator c.args.row.now in
    let all = ap length c.in-Some.ensures.some in
    grind (arith, few, all)
