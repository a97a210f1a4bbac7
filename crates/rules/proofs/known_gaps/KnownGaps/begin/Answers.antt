use Rattle.rules.proofs.rows.GapTables.{with_table}
use Rattle.rules.proofs.known_gaps.KnownGaps.begin.Goals as goal

pub returns-then-ne-clause-known : goal.returns-then-ne-clause-known
returns-then-ne-clause-known c =
    with_table c.args.self.now c.args.place c.begin.new.self c.requires.known c.requires.place (c.begin.ensures.table _)
