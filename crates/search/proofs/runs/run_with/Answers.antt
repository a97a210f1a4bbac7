use Rattle.std.proofs.Common.{ap, sym, ◌∙◌}
use Rattle.shared_board.specs.Seats.{SeatValue}
use Rattle.search.proofs.runs.run_with.Goals as goal

pub search-requires-clause-scoring : goal.search-requires-clause-scoring
search-requires-clause-scoring g c = λ _ _ on.
    ap (λ (s : SeatValue). s.setting.league) c.in-Ok.ensures ∙ sym (c.is_same-of_boards.ensures.0 on ∙ c.league.ensures)
