-- No number so far has the fault.
use Rattle.std.proofs.Common.{◌≡◌, None}
use Rattle.serde_json.specs.View.{view}
use Rattle.league_hints.specs.Distances.{entry_hint}
use Rattle.league_hints.specs.Firsts.{first_below}
use Rattle.league_hints.proofs.distances.entries_hint.Given as goal

abbrev pub invariant-loop-column : goal.invariant-loop-column
invariant-loop-column l = first_below l.column (entry_hint l.fault (view l.table) l.row) ≡ None
