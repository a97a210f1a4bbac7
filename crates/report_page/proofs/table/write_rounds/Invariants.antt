use Rattle.csv.specs.Writing.{writer_setup}
use Rattle.byte_streams.specs.Pieces.{pieces_below}
use Rattle.report_page.specs.Table.{games_of_round}
use Rattle.report_page.specs.within.Table.{AddsRows}
use Rattle.report_page.proofs.table.write_rounds.Given as goal

abbrev pub invariant-loop-round : goal.invariant-loop-round
invariant-loop-round g l = AddsRows g.W.Write.contents l.initial.writer l.writer (pieces_below (games_of_round (writer_setup l.initial.writer) l.league l.schedule) l.round)
