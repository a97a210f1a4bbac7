use Rattle.std.proofs.Common.{◌≡◌, ◌+◌, ◌*◌, ◌<◌, length, arith}
use Rattle.league.specs.Checks.{distance_of}
use Rattle.league.specs.Rows.{table_of}
use Rattle.league.specs.Views.{texts}
use Rattle.league.proofs.Rows.{index_in_table, read_in_table, length-texts}
use Rattle.league.proofs.leagues.League.distance.Goals as goal
use Rattle.league.proofs.leagues.League.distance.Goals.{After-from-2}

-- both teams have a name, and the index is that of their distance
in_table : (c : After-from-2) → (c.args.a < length (texts c.self.inside.names.items))
    × ((c.args.b < length (texts c.self.inside.names.items))
    × (c.from.result * c.len.result + c.from-2.result ≡ c.args.a * length (texts c.self.inside.names.items) + c.args.b))
in_table c =
    let size : c.len.result ≡ length (texts c.self.inside.names.items) =
    omega (arith, length-texts c.self.inside.names.items) in (
      rw (← c.self.view_is) at c.requires.a_in,
      (rw (← c.self.view_is) at c.requires.b_in, cc (size, c.from.ensures, c.from-2.ensures)),
    )

pub index-requires : goal.index-requires
index-requires c =
    let at = in_table (goal.at.index-requires c).After-from-2 in
    omega (arith, at.1.1, index_in_table _ c.self.inside.distances.items c.args.a c.args.b c.self.invariant.table.columns at.0 at.1.0)

pub returns-clause-value : goal.returns-clause-value
returns-clause-value c =
    let at = in_table (goal.at.returns-clause-value c).After-from-2 in
    rw (← c.self.view_is)
    (read_in_table _ c.self.inside.distances.items c.args.a c.args.b _ c.index.result.now c.self.invariant.table.columns at.0 at.1.0 at.1.1
    c.index.ensures)

pub returns-clause-near : goal.returns-clause-near
returns-clause-near c =
    let value : c.index.result.now ≡ distance_of
    (table_of (length (texts c.self.inside.names.items)) c.self.inside.distances.items) c.args.a c.args.b =
    rw (← c.self.view_is) at (returns-clause-value c) in
    omega (arith, value, c.self.invariant.table.near c.args.a c.args.b)
