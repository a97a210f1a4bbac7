use Rattle.std.proofs.Common.{◌≡◌}
use Rattle.rules.proofs.rows.GapTables.{HaveLeft}
use Rattle.rules.proofs.known_gaps.KnownGaps.follow.Given as goal

abbrev pub invariant-loop-place : goal.invariant-loop-place
invariant-loop-place l =
    HaveLeft l.fn.self.homes.rows l.fn.self l.self l.place × (l.self.homes ≡ l.initial.self.homes)
