use Rattle.std.proofs.Common.{◌≡◌, ◌++◌, ◌≤◌}
use Rattle.league.specs.Sets.{has}
use Rattle.league.specs.Sums.{count_where}
use Rattle.byte_streams.specs.Pieces.{pieces_below}
use Rattle.report_page.specs.Lists.{name_in}
use Rattle.report_page.proofs.lists.push_names.Given as goal

abbrev pub invariant-loop-team : goal.invariant-loop-team
invariant-loop-team l = record {
  text : l.page.items ≡ l.initial.page.items ++ pieces_below (name_in l.league (has l.chosen)) l.team;
  counted : l.before ≡ count_where l.team (has l.chosen);
  few : l.before ≤ l.team;
}
