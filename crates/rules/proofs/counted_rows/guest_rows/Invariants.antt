use Rattle.std.specs.Prelude.{◌+◌}
use Rattle.rules.proofs.rows.RowsByRounds.{IsGuestRow}
use Rattle.rules.proofs.walks.Left.{IsLeft}
use Rattle.rules.proofs.counted_rows.guest_rows.Given as goal

abbrev pub invariant-loop-opponent : goal.invariant-loop-opponent
invariant-loop-opponent l =
    IsLeft l.schedule.teams l.fn.opponents l.opponent-iterator ×
    IsGuestRow l.schedule l.side l.fn.opponents l.opponent-iterator l.round l.first ×
    IsGuestRow l.schedule l.side l.fn.opponents l.opponent-iterator (l.round + 1) l.second ×
    IsGuestRow l.schedule l.side l.fn.opponents l.opponent-iterator (l.round + 2) l.third ×
    IsGuestRow l.schedule l.side l.fn.opponents l.opponent-iterator (l.round + 3) l.fourth
