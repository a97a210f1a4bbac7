use Rattle.fixtures.specs.Games.{round_count}
use Rattle.rules.specs.within.Walked.{IsRow}
use Rattle.rules.proofs.rows.RowsByRounds.{HasMade}
use Rattle.rules.proofs.counted_rows.add_on_side.Given as goal

abbrev pub invariant-loop-block : goal.invariant-loop-block
invariant-loop-block l =
    HasMade (IsRow l.schedule l.side l.games.opponents l.games.teams) (round_count l.schedule.teams) l.from l.block l.initial.rows l.rows
