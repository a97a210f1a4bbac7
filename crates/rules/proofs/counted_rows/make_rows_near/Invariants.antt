use Rattle.fixtures.specs.Games.{round_count}
use Rattle.rules.specs.within.Walked.{IsRow}
use Rattle.rules.proofs.rows.RowsByRounds.{HasMadeNear}
use Rattle.rules.proofs.counted_rows.make_rows_near.Given as goal

abbrev pub invariant-loop-round : goal.invariant-loop-round
invariant-loop-round l =
    HasMadeNear (IsRow l.schedule l.games.side l.games.opponents l.games.teams) (round_count l.schedule.teams) l.initial.round-iterator
    l.round-iterator l.window l.made l.rows
