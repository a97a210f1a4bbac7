use Rattle.report_page.proofs.grid.push_cell.Goals as goal

pub returns : goal.returns
returns c =
    rw (
      c.word_if.ensures,
      c.word_if-2.ensures,
      c.word_if-3.ensures,
      c.word_if-4.ensures,
      c.word_if-5.ensures,
      c.word_if-6.ensures,
    ) at c.push_pieces.ensures
