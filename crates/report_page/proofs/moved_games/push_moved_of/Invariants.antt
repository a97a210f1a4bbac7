use Rattle.std.proofs.Common.{◌≡◌, ◌++◌}
use Rattle.byte_streams.specs.Pieces.{pieces_below}
use Rattle.report_page.specs.MovedGames.{moved_row}
use Rattle.report_page.proofs.moved_games.push_moved_of.Given as goal

abbrev pub invariant-loop-away : goal.invariant-loop-away
invariant-loop-away l = l.page.items ≡ l.initial.page.items ++ pieces_below (moved_row l.league l.schedule l.home) l.away
