-- Lists of teams and of rounds in words: those that pass a test. Teams and rounds are numbered from 0 in calls, and from 1 in texts.
use Rattle.std.specs.Prelude.{ℕ, ◌+◌, ◌-◌, ◌==◌, ◌&&◌, List, [], ◌∷◌, ◌++◌, Bool, not, nat_lt, codes, decimal, if◌then◌else◌}
use Rattle.std.specs.List.{concat}
use Rattle.league.specs.League.{LeagueData, name_of, teams}
use Rattle.league.specs.Sums.{count_where}
use Rattle.byte_streams.specs.Pieces.{pieces_below}
use Rattle.report_page.specs.Pieces.{escaped}
use Rattle.report_page.specs.Style.{word_if}

-- what parts an item from those before it, of so many
abbrev pub joint : ℕ → ℕ → List ℕ
joint before all = if before == 0 then [] else (if before + 1 == all then codes " and " else codes ", ")

abbrev pub name_if : LeagueData → Bool → ℕ → ℕ → ℕ → List ℕ
name_if l passes before all team = if passes then joint before all ++ escaped (name_of l team) else []

-- the name of a team that passes
abbrev pub name_in : LeagueData → (ℕ → Bool) → ℕ → List ℕ
name_in l test team = name_if l (test team) (count_where team test) (count_where (teams l) test) team

unfoldable pub names_text : LeagueData → (ℕ → Bool) → List ℕ
names_text l test = pieces_below (name_in l test) (teams l)

-- the teams that pass
unfoldable pub teams_text : LeagueData → (ℕ → Bool) → List ℕ
teams_text l test =
    if count_where (teams l) test == 0 then codes "no team"
    else if count_where (teams l) test == teams l then codes "all teams" else names_text l test

-- each of them
unfoldable pub each_text : LeagueData → (ℕ → Bool) → List ℕ
each_text l test =
    if count_where (teams l) test == teams l then codes "every team"
    else word_if (nat_lt 1 (count_where (teams l) test)) (codes "each of ") ++ teams_text l test

-- each two of them, of which there are none below two teams
unfoldable pub pairs_text : LeagueData → (ℕ → Bool) → List ℕ
pairs_text l test =
    if count_where (teams l) test == teams l then codes "any two teams"
    else if nat_lt (count_where (teams l) test) 2 then codes "no two teams"
    else word_if (not (count_where (teams l) test == 2)) (codes "any two of ") ++ teams_text l test

-- a round that passes, where a stretch of them begins or ends: behind how many, and whether the one before passes and the next one
abbrev pub stretch_text : Bool → ℕ → Bool → Bool → ℕ → List ℕ
stretch_text passes before goes_on continues round =
    if not passes then []
    else if not goes_on then word_if (not (before == 0)) (codes ", ") ++ decimal (round + 1)
    else if continues then [] else codes "-" ++ decimal (round + 1)

abbrev pub round_in : ℕ → (ℕ → Bool) → ℕ → List ℕ
round_in rounds test round =
    stretch_text (test round) (count_where round test) (not (round == 0) && test (round - 1)) (nat_lt (round + 1) rounds && test (round + 1))
    round

-- the rounds that pass, as `rounds 1-4, 7`
unfoldable pub rounds_text : ℕ → (ℕ → Bool) → List ℕ
rounds_text rounds test =
    if count_where rounds test == 0 then codes "no round"
    else concat (codes "round" ∷ word_if (nat_lt 1 (count_where rounds test)) (codes "s") ∷ codes " " ∷
    pieces_below (round_in rounds test) rounds ∷ [])
