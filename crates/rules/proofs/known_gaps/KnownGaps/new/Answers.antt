use Rattle.rules.proofs.rows.GapTables.{first_known}
use Rattle.rules.proofs.known_gaps.KnownGaps.new.Goals as goal

pub returns : goal.returns
returns c = first_known _ _ c.new.ensures (c.empty.ensures _)
