use Rattle.std.proofs.Common.{◌≡◌, ◌++◌}
use Rattle.byte_streams.specs.Pieces.{pieces_below}
use Rattle.report_page.specs.Pairings.{round_block}
use Rattle.report_page.proofs.pairings.push_rounds.Given as goal

abbrev pub invariant-loop-round : goal.invariant-loop-round
invariant-loop-round l = l.text.items ≡ l.initial.text.items ++ pieces_below (round_block l.dress l.league l.schedule) l.round
