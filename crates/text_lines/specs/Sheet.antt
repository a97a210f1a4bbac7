-- The sheet of a schedule. Teams and rounds are numbered from 0 here, and from 1 in the text.
use Rattle.std.specs.Prelude.{ℕ, ◌+◌, List, [], ◌∷◌, ◌++◌, Bool, if◌then◌else◌, codes, decimal}
use Rattle.fixtures.specs.Games.{Games, cell, round_count}
use Rattle.league.specs.League.{LeagueData, name_of}
use Rattle.byte_streams.specs.Pieces.{pieces_below}

-- `H` for a game at home, `A` for one away
abbrev pub place_letter : Bool → ℕ
place_letter home = if home then 72 else 65

abbrev pub head_line : Games → List ℕ
head_line g = codes "league " ++ decimal g.teams ++ codes " teams " ++ decimal (round_count g.teams) ++ codes " rounds\n"

abbrev pub letter_of : Games → ℕ → ℕ → List ℕ
letter_of g team round = place_letter (cell g team round).home ∷ []

-- the team's home-away pattern: a letter for each round
abbrev pub pattern_of : Games → ℕ → List ℕ
pattern_of g team = pieces_below (letter_of g team) (round_count g.teams)

-- a word with a number, and what stands behind it
abbrev pub label : List ℕ → ℕ → List ℕ → List ℕ
label word number end = word ++ decimal (number + 1) ++ end

-- a name at the end of a line
abbrev pub name_end : List ℕ → List ℕ
name_end name = codes " " ++ name ++ codes "\n"

abbrev pub team_line : Games → LeagueData → ℕ → List ℕ
team_line g league team = label (codes "team ") team (codes " ") ++ pattern_of g team ++ name_end (name_of league team)

-- a game, after a space
abbrev pub pairing_of : ℕ → ℕ → List ℕ
pairing_of home away = codes " " ++ decimal (home + 1) ++ codes "-" ++ decimal (away + 1)

-- the team's game in the round, if the team is at home there
abbrev pub game_text : Games → ℕ → ℕ → List ℕ
game_text g round team = if (cell g team round).home then pairing_of team (cell g team round).opponent else []

-- the games of the round, in the order of their home teams
abbrev pub round_line : Games → ℕ → List ℕ
round_line g round = label (codes "round ") round (codes ":") ++ pieces_below (game_text g round) g.teams ++ codes "\n"

-- a head line, a line for each team and a line for each round
unfoldable pub sheet_of : Games → LeagueData → List ℕ
sheet_of g league = head_line g ++ pieces_below (team_line g league) g.teams ++ pieces_below (round_line g) (round_count g.teams)
