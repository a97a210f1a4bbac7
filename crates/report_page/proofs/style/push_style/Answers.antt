use Rattle.report_page.proofs.style.push_style.Goals as goal

pub returns : goal.returns
returns c =
    rw (c.title.ensures, c.word_if.ensures, c.has_title.ensures, c.word_if-2.ensures, c.given.ensures) at c.push_pieces.ensures
