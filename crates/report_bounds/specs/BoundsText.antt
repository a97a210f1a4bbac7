-- The bounds of a league, as lines. Teams are numbered from 0 in calls, and from 1 in texts.
use Rattle.std.specs.Prelude.{ℕ, ◌+◌, List, [], ◌∷◌, ◌++◌, length, slice_index, codes, decimal}
use Rattle.std.specs.List.{concat}
use Rattle.byte_streams.specs.Pieces.{pieces_below}
use Rattle.text_lines.specs.Lines.{numbered}

-- what a team travels at least
abbrev pub tour_bound_line : List ℕ → ℕ → List ℕ
tour_bound_line tours team =
    concat (codes "tour " ∷ decimal (team + 1) ∷ codes " bound " ∷ decimal (slice_index tours team) ∷ codes "\n" ∷ [])

-- a line for each team, and the last one for all together
unfoldable pub bounds_text : List ℕ → ℕ → List ℕ
bounds_text tours travel = pieces_below (tour_bound_line tours) (length tours) ++ numbered (codes "bound ") travel
