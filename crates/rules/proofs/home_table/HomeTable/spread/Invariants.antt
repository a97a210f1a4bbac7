use Rattle.rules.proofs.rows.HomeTables.{AreBetween}
use Rattle.rules.proofs.home_table.HomeTable.spread.Given as goal

abbrev pub invariant-loop-team : goal.invariant-loop-team
invariant-loop-team l = AreBetween l.self.rows l.lowest l.highest l.fn.teams l.team-iterator
