use Rattle.rules.proofs.rows.GapTables.{no_slots}
use Rattle.rules.proofs.gap_table.GapTable.empty.Goals as goal

pub returns : goal.returns
returns c = λ rows. no_slots rows _ _ c.empty.ensures.value c.empty-2.ensures.value
