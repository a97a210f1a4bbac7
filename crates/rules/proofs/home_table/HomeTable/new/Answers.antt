use Rattle.rules.proofs.rows.HomeTables.{new_table}
use Rattle.rules.proofs.home_table.HomeTable.new.Goals as goal

pub returns : goal.returns
returns c = new_table _ c.empty.ensures.value
