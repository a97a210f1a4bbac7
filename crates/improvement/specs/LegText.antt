-- What an improvement writes.
use Rattle.std.specs.Prelude.{ℕ, Bool, if◌then◌else◌, List, [], ◌∷◌, ◌++◌, codes, decimal}
use Rattle.std.specs.List.{concat}
use Rattle.league.specs.League.{LeagueData}
use Rattle.board_texts.specs.SearchText.{improved_text}
use Rattle.text_lines.specs.Sheet.{sheet_of}
use Rattle.improvement.specs.Broken.{broken_text}
use Rattle.improvement.specs.Legs.{LegRun, lead_of}
use Rattle.improvement.specs.Solutions.{Solution, solutions_of}

-- a block: the sheet of a solution, its total and a line that ends it
abbrev pub solution_lines : LeagueData → Solution → List ℕ
solution_lines league s =
    sheet_of s.games league ++ concat (codes "best " ∷ decimal s.total ∷ codes "\n----------\n" ∷ [])

-- the blocks of these solutions, of which the newest stands first here and last in the text
unfoldable pub blocks : LeagueData → List Solution → List ℕ
blocks league [] = []
blocks league (s ∷ older) = blocks league older ++ solution_lines league s

-- what is written of these legs
abbrev pub legs_text : LeagueData → List LegRun → List ℕ
legs_text league legs = blocks league (solutions_of league legs)

-- and once they are all: how often what is hard is broken in the chains if none met a feasible schedule, and what an improvement ends with, of
-- the history that all legs together come to
abbrev pub ending : LeagueData → Bool → Bool → List LegRun → List ℕ
ending league history ended legs =
    if ended then broken_text league legs ++ improved_text history league (lead_of league legs) else []

-- `history` tells whether it has that history
unfoldable pub improve_text : LeagueData → Bool → Bool → List LegRun → List ℕ
improve_text league history ended legs = legs_text league legs ++ ending league history ended legs
