use Rattle.std.proofs.Common.{◌≡◌, ◌++◌, slice_get}
use Rattle.byte_streams.specs.Pieces.{pieces_below}
use Rattle.report_page.specs.Page.{rule_row_at}
use Rattle.report_page.proofs.page.push_rule_rows.Given as goal

abbrev pub invariant-loop-i : goal.invariant-loop-i
invariant-loop-i l =
    l.page.items ≡ l.initial.page.items ++ pieces_below (λ i. rule_row_at l.league l.schedule l.broken i (slice_get l.league.rules i)) l.i
