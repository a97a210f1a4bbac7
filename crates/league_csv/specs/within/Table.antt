-- What private functions alone need beside specs/Table.antt.
use Rattle.std.specs.Prelude.{length}
use Rattle.league.specs.Views.{texts}
use Rattle.league_csv.specs.declared.table.Table.{Table}
use Rattle.league_csv.specs.Table.{TableData}
use Rattle.league_csv.specs.within.Views.{rows}

abbrev pub table_view : Table → TableData
table_view table = record { names = texts table.names.items; rows = rows table.rows.items }
