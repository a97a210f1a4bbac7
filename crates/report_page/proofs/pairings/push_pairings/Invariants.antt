use Rattle.std.proofs.Common.{◌≡◌, ◌++◌}
use Rattle.byte_streams.specs.Pieces.{pieces_below}
use Rattle.report_page.specs.Pairings.{pairing_at}
use Rattle.report_page.proofs.pairings.push_pairings.Given as goal

abbrev pub invariant-loop-team : goal.invariant-loop-team
invariant-loop-team l = l.text.items ≡ l.initial.text.items ++ pieces_below (pairing_at l.dress l.league l.schedule l.round) l.team
