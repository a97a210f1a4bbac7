use Rattle.rules.proofs.rows.GapTables.{HasAdded}
use Rattle.rules.proofs.gap_table.GapTable.add_team.Given as goal

abbrev pub invariant-loop-other : goal.invariant-loop-other
invariant-loop-other l = HasAdded l.rows l.fn.self l.self l.team l.other-iterator
