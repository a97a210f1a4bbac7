-- The lines of breaches. Teams, rounds and rules are numbered from 0 in calls, and from 1 in texts.
use Rattle.std.specs.Prelude.{ℕ, ◌+◌, ◌||◌, Bool, true, false, min, max, List, [], ◌∷◌, ◌++◌, map, length, slice_get, Option, Some, None}
use Rattle.std.specs.Prelude.{codes, decimal, if◌then◌else◌}
use Rattle.std.specs.List.{concat}
use Rattle.byte_streams.specs.Pieces.{pieces_below}
use Rattle.league.specs.Sets.{has}
use Rattle.league.specs.declared.rule.Pairing.{Pairing}
use Rattle.league.specs.declared.rule.RuleBody.{RuleBody}
use Rattle.league.specs.declared.rule.RuleBody.TheVariants.{Ga1}
use Rattle.fixtures.specs.Games.{Games, round_count, round_of, cell}
use Rattle.text_lines.specs.Sheet.{pairing_of}
use Rattle.report_breaches.specs.declared.breach.Breach.{Breach}
use Rattle.report_breaches.specs.declared.breach.Place.{Place}
use Rattle.report_breaches.specs.declared.breach.Place.TheVariants.{GamesOf, BreaksOf, Window, Round, Together, GamesOver, GamesUnder, Pair, PairIn}
use Rattle.report_breaches.specs.Breaches.{breaches_of}
use Rattle.report_breaches.specs.Cells.{names_cell}

-- whether there is too much or too little
abbrev pub side_word : Place → List ℕ
side_word GamesUnder = codes "under"
side_word (Pair low high) = codes "under"
side_word place = codes "over"

abbrev pub team_text : ℕ → List ℕ
team_text team = codes " team " ++ decimal (team + 1)

abbrev pub teams_text : ℕ → ℕ → List ℕ
teams_text low high = codes " teams " ++ decimal (low + 1) ++ codes "-" ++ decimal (high + 1)

abbrev pub round_text : ℕ → List ℕ
round_text round = codes " round " ++ decimal (round + 1)

abbrev pub window_text : ℕ → ℕ → List ℕ
window_text first last = codes " rounds " ++ decimal (first + 1) ++ codes "-" ++ decimal (last + 1)

abbrev pub place_text : Place → List ℕ
place_text (GamesOf team) = team_text team
place_text (BreaksOf team) = team_text team
place_text (Window team first last) = team_text team ++ window_text first last
place_text (Round round) = round_text round
place_text Together = []
place_text GamesOver = []
place_text GamesUnder = []
place_text (Pair low high) = teams_text low high
place_text (PairIn low high round) = teams_text low high ++ round_text round

-- after a game, its round
abbrev pub at_round : ℕ → List ℕ
at_round round = codes " @ " ++ decimal (round + 1)

-- a team's game in a round
abbrev pub game_of : Games → ℕ → ℕ → List ℕ
game_of g team round =
    if (cell g team round).home then pairing_of team (cell g team round).opponent else pairing_of (cell g team round).opponent team

abbrev pub next_round : ℕ → List ℕ
next_round round = codes " " ++ decimal (round + 1)

-- what is told of a team's game: of a break its round, of a round the game, else both
abbrev pub cell_text : Games → Place → ℕ → ℕ → List ℕ
cell_text g (BreaksOf t) team round = next_round round
cell_text g (Round r) team round = game_of g team round
cell_text g place team round = game_of g team round ++ at_round round

abbrev pub named_cell : Games → RuleBody → Place → ℕ → ℕ → List ℕ
named_cell g body place team round = if names_cell g body place team round then cell_text g place team round else []

-- of a team's games that are named, in the order of the rounds
abbrev pub row_named : Games → RuleBody → Place → ℕ → List ℕ
row_named g body place team = pieces_below (named_cell g body place team) (round_count g.teams)

-- of the games of a round that are named, each once for each of its teams for which it is, in the order of the teams
abbrev pub column_named : Games → RuleBody → Place → ℕ → List ℕ
column_named g body place round = pieces_below (λ team. named_cell g body place team round) g.teams

-- a listed game with its round, if the whole list is told or the game is in the slots
abbrev pub listed_game : Games → Bool → (ℕ → Bool) → Pairing → List ℕ
listed_game g whole slots game =
    if whole || slots (round_of g game.home game.away) then
    pairing_of game.home game.away ++ at_round (round_of g game.home game.away)
    else []

-- if there is one
abbrev pub listed_at : Games → Bool → (ℕ → Bool) → Option Pairing → List ℕ
listed_at g whole slots None = []
listed_at g whole slots (Some game) = listed_game g whole slots game

-- in the order of the list
abbrev pub listed_text : Games → Bool → RuleBody → List ℕ
listed_text g whole (Ga1 games slots least most) =
    pieces_below (λ i. listed_at g whole (has slots) (slice_get games i)) (length games)
listed_text g whole other = []

-- the rounds of the two games of a pair
abbrev pub meetings_text : Games → ℕ → ℕ → List ℕ
meetings_text g low high =
    concat (codes " " ∷ decimal (min (round_of g low high) (round_of g high low) + 1) ∷ codes " " ∷
    decimal (max (round_of g low high) (round_of g high low) + 1) ∷ [])

-- which games or rounds make the breach
abbrev pub made_of : Games → RuleBody → Place → List ℕ
made_of g body (GamesOf team) = row_named g body (GamesOf team) team
made_of g body (BreaksOf team) = row_named g body (BreaksOf team) team
made_of g body (Window team first last) = row_named g body (Window team first last) team
made_of g body (Round round) = column_named g body (Round round) round
made_of g body Together = []
made_of g body GamesOver = listed_text g false body
made_of g body GamesUnder = listed_text g true body
made_of g body (Pair low high) = meetings_text g low high
made_of g body (PairIn low high round) = []

-- too much or too little for the rule
abbrev pub breach_head : Place → ℕ → List ℕ
breach_head place rule = concat (side_word place ∷ codes " rule " ∷ decimal (rule + 1) ∷ [])

-- what stands before the games or rounds that make a breach
abbrev pub colon_text : Place → List ℕ
colon_text (BreaksOf team) = codes ": rounds"
colon_text (Pair low high) = codes ": rounds"
colon_text Together = []
colon_text (PairIn low high round) = []
colon_text place = codes ":"

abbrev pub by_text : ℕ → Place → List ℕ
by_text by place = concat (codes " by " ∷ decimal by ∷ colon_text place ∷ [])

-- where, by how much, and of what
unfoldable pub breach_line : Games → ℕ → RuleBody → Breach → List ℕ
breach_line g rule body breach =
    breach_head breach.place rule ++ place_text breach.place ++ by_text breach.by breach.place ++ made_of g body breach.place ++
    codes "\n"

-- a line for each of the breaches
abbrev pub lines_of : Games → ℕ → RuleBody → List Breach → List ℕ
lines_of g rule body breaches = concat (map (breach_line g rule body) breaches)

-- a line for each breach of the rule
unfoldable pub breaches_text : Games → ℕ → RuleBody → List ℕ
breaches_text g rule body = lines_of g rule body (breaches_of g body)
