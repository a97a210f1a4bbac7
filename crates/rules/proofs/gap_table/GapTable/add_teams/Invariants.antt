use Rattle.std.specs.Prelude.{◌≡◌, ℕ, true, false}
use Rattle.league.specs.Limits.{max_teams}
use Rattle.league.specs.Sets.{has, IsBelow}
use Rattle.rules.specs.within.GapTables.{IsGapTable}
use Rattle.rules.proofs.gap_table.GapTable.add_teams.Given as goal

abbrev pub invariant-loop-team : goal.invariant-loop-team
invariant-loop-team l =
    IsGapTable l.rows l.self × (l.self.slots ≡ l.fn.self.slots) × IsBelow max_teams l.team-iterator ×
    ((t : ℕ) → has l.team-iterator t ≡ true → has l.self.teams t ≡ false) ×
    ((t : ℕ) → has l.fn.teams t ≡ true → has l.team-iterator t ≡ false → has l.self.teams t ≡ true)
