use Rattle.std.proofs.Common.{◌≡◌, ◌++◌, ◌≤◌}
use Rattle.league.specs.Sets.{has}
use Rattle.league.specs.Sums.{count_where}
use Rattle.byte_streams.specs.Pieces.{pieces_below}
use Rattle.report_page.specs.Lists.{round_in}
use Rattle.report_page.proofs.lists.push_stretches.Given as goal

abbrev pub invariant-loop-round : goal.invariant-loop-round
invariant-loop-round l = record {
  text : l.page.items ≡ l.initial.page.items ++ pieces_below (round_in l.rounds (has l.chosen)) l.round;
  counted : l.before ≡ count_where l.round (has l.chosen);
  few : l.before ≤ l.round;
}
