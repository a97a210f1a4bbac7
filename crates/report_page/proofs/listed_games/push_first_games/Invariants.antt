use Rattle.std.proofs.Common.{◌≡◌, ◌++◌, slice_get}
use Rattle.byte_streams.specs.Pieces.{pieces_below}
use Rattle.report_page.specs.RuleWords.{game_at}
use Rattle.report_page.proofs.listed_games.push_first_games.Given as goal

abbrev pub invariant-loop-i : goal.invariant-loop-i
invariant-loop-i l =
    l.page.items ≡ l.initial.page.items ++ pieces_below (λ i. game_at l.league i (slice_get l.games i)) l.i
