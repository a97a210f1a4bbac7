use Rattle.rules.proofs.rows.HomeTables.{HasFollowed}
use Rattle.rules.proofs.home_table.HomeTable.follow.Given as goal

abbrev pub invariant-loop-team : goal.invariant-loop-team
invariant-loop-team l = HasFollowed l.schedule l.fn.self.rows l.self l.fn.teams l.team-iterator l.flipped
