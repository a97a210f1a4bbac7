-- What is written when one leg has ended.
use Rattle.std.specs.Prelude.{ℕ, List, [], Option, Some, None}
use Rattle.league.specs.League.{LeagueData}
use Rattle.fixture_board.specs.declared.change.Entry.{Entry}
use Rattle.improvement.specs.LegText.{solution_lines}
use Rattle.improvement.specs.Solutions.{Solution, below, best_solution}

-- a block, if there is a solution
abbrev pub text_of : LeagueData → Option Solution → List ℕ
text_of league None = []
text_of league (Some s) = solution_lines league s

-- the best schedule of the leg's history, if the total of that is below the least before
abbrev pub solution_text : LeagueData → Option ℕ → List Entry → List ℕ
solution_text league least h = text_of league (below least (best_solution league h))
