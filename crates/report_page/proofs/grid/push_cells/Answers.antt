use Rattle.std.proofs.Common.{◌-◌}
use Rattle.report_page.specs.Grid.{cell_text}
use Rattle.report_page.proofs.Pushes.{piece_added}
use Rattle.report_page.proofs.grid.push_cells.Goals as goal

pub loop-round-preserved : goal.loop-round-preserved
loop-round-preserved c =
    let round_in = rw c.rounds-round-end.ensures.number at c.loop-round-test.true in
    piece_added _ _ _ (cell_text c.args.league.now c.args.schedule.now c.args.team) c.loop-round.round c.loop-round.invariant
    (rw (
      c.game_at-game.ensures.value,
      c.goes_over.ensures,
      c.windows_spent-windows.ensures (c.loop-round.round - c.at_most-at_most.result),
      c.meets_again.ensures,
      c.has.ensures,
      c.requires.broken c.args.team c.loop-round.round c.requires.team round_in,
      c.is_moved.ensures,
      c.at_most-at_most.ensures.value,
    ) at c.in_ok-push_cell.ensures)
