use Rattle.std.proofs.Common.{◌≡◌}
use Rattle.shared_board.proofs.shared.Shared.try_take.Given as goal

abbrev pub invariant-loop-tried : goal.invariant-loop-tried
invariant-loop-tried l = (l.token.table_id ≡ l.initial.token.table_id) × (l.token.me ≡ l.initial.token.me)
