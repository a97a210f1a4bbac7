-- No row so far has the fault.
use Rattle.std.proofs.Common.{◌≡◌, None}
use Rattle.serde_json.specs.View.{view}
use Rattle.league_hints.specs.Distances.{row_hint}
use Rattle.league_hints.specs.Firsts.{first_below}
use Rattle.league_hints.proofs.distances.table_hint.Given as goal

abbrev pub invariant-loop-row : goal.invariant-loop-row
invariant-loop-row l = first_below l.row (row_hint l.fault l.teams (view l.table)) ≡ None
