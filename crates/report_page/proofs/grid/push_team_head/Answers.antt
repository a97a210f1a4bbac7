use Rattle.report_page.specs.Grid.{team_head}
use Rattle.report_page.proofs.grid.push_team_head.Goals as goal

pub returns : goal.returns
unfolding team_head
returns c =
    rw (c.short_name.ensures, c.word_if.ensures, c.has_short_names.ensures, c.as_bytes.ensures.value, c.name.ensures)
    at c.push_pieces.ensures
