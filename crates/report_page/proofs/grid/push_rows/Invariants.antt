use Rattle.std.proofs.Common.{◌≡◌, ◌++◌}
use Rattle.byte_streams.specs.Pieces.{pieces_below}
use Rattle.report_page.specs.Grid.{grid_row}
use Rattle.report_page.proofs.grid.push_rows.Given as goal

abbrev pub invariant-loop-team : goal.invariant-loop-team
invariant-loop-team l = l.page.items ≡ l.initial.page.items ++ pieces_below (grid_row l.league l.schedule) l.team
