use Rattle.std.specs.Prelude.{◌+◌}
use Rattle.rules.proofs.rows.RowsByRounds.{IsOwnRow}
use Rattle.rules.proofs.walks.Left.{IsLeft}
use Rattle.rules.proofs.counted_rows.own_rows.Given as goal

abbrev pub invariant-loop-team : goal.invariant-loop-team
invariant-loop-team l =
    IsLeft l.schedule.teams l.fn.teams l.team-iterator ×
    IsOwnRow l.schedule l.side l.opponents l.fn.teams l.team-iterator l.round l.first ×
    IsOwnRow l.schedule l.side l.opponents l.fn.teams l.team-iterator (l.round + 1) l.second ×
    IsOwnRow l.schedule l.side l.opponents l.fn.teams l.team-iterator (l.round + 2) l.third ×
    IsOwnRow l.schedule l.side l.opponents l.fn.teams l.team-iterator (l.round + 3) l.fourth
