use Rattle.league.proofs.Rows.{get_or-rows, table_of-all}
use Rattle.std.proofs.Common.{arith}
use Rattle.league.proofs.leagues.one_after_another.Goals as goal

pub push_row-requires : goal.push_row-requires
push_row-requires c = λ b.
    rw (c.deref.ensures.value, ← get_or-rows c.args.table.now c.loop-row.row-index c.row-item.result c.loop-row-test.true c.row-item.is)
    (c.requires.near c.loop-row.row-index b)

pub returns : goal.returns
returns c =
    table_of-all c.args.teams c.loop-row.numbers.items c.args.table.now c.loop-row.row-index (omega arith) c.requires c.loop-row.invariant
