use Rattle.std.proofs.Common.{◌∙◌, append-nil}
use Rattle.fixtures.specs.Games.{round_count}
use Rattle.byte_streams.specs.Pieces.{pieces_below}
use Rattle.report_page.specs.Table.{games_of_round, table_text}
use Rattle.report_page.proofs.Rows.{AddsRows-after}
use Rattle.report_page.proofs.table.table.Goals as goal

pub returns-in-Ok : goal.returns-in-Ok
unfolding table_text
returns-in-Ok c =
    let writer = c.writer_behind-writer.ensures in
    let whole = AddsRows-after
    (λ setup. pieces_below (games_of_round setup c.args.league.now c.args.schedule.now) (round_count c.args.schedule.now.teams))
    c.in_ok-write_cells.ensures c.in_ok-write_rounds.ensures in
    c.in-Ok.ensures.ok
    ∙ rw (
      writer.under,
      writer.pending,
      writer.setup,
      c.in_ok-extend_from_slice.ensures.items,
      c.new-start.ensures.items,
      c.word_if.ensures,
      append-nil,
    ) at whole.bytes
