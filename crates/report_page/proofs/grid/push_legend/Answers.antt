use Rattle.report_page.proofs.grid.push_legend.Goals as goal

pub returns : goal.returns
returns c =
    rw (c.at_most.ensures.value, c.word_if.ensures, c.rule_count.ensures.value, c.word_if-2.ensures, c.given.ensures)
    at c.push_pieces.ensures
