use Rattle.csv.specs.Writing.{writer_setup}
use Rattle.byte_streams.specs.Pieces.{pieces_below}
use Rattle.report_page.specs.Table.{game_at}
use Rattle.report_page.specs.within.Table.{AddsRows}
use Rattle.report_page.proofs.table.write_round.Given as goal

abbrev pub invariant-loop-team : goal.invariant-loop-team
invariant-loop-team g l = AddsRows g.W.Write.contents l.initial.writer l.writer (pieces_below (game_at (writer_setup l.initial.writer) l.league l.schedule l.round) l.team)
