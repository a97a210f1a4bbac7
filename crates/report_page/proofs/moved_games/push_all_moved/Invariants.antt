use Rattle.std.proofs.Common.{◌≡◌, ◌++◌}
use Rattle.byte_streams.specs.Pieces.{pieces_below}
use Rattle.report_page.specs.MovedGames.{moved_rows}
use Rattle.report_page.proofs.moved_games.push_all_moved.Given as goal

abbrev pub invariant-loop-home : goal.invariant-loop-home
invariant-loop-home l = l.page.items ≡ l.initial.page.items ++ pieces_below (moved_rows l.league l.schedule) l.home
