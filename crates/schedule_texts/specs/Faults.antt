-- What is wrong with the games that lines give, a line for each fault. Teams and rounds are numbered from 0 in calls, and
-- from 1 in texts.
use Rattle.std.specs.Prelude.{ℕ, ◌+◌, ◌==◌, Bool, ◌&&◌, ◌||◌, List, [], ◌∷◌, ◌++◌, codes, decimal, if◌then◌else◌, count_by}
use Rattle.std.specs.List.{concat}
use Rattle.byte_streams.specs.Pieces.{pieces_below}
use Rattle.fixtures.specs.declared.game.Game.{Game}
use Rattle.fixtures.specs.Draft.{is_game_in_range}
use Rattle.fixtures.specs.Games.{round_count}
use Rattle.schedule_texts.specs.declared.schedule_text.ScheduleLine.{ScheduleLine}
use Rattle.schedule_texts.specs.declared.schedule_text.ScheduleLine.TheVariants.{Other, Bad, Round}
use Rattle.schedule_texts.specs.declared.schedule_text.WrittenGame.{WrittenGame}
use Rattle.schedule_texts.specs.ScheduleText.{line_of, written_games}
use Rattle.schedule_texts.specs.LastSheet.{last_sheet}
use Rattle.schedule_texts.specs.Given.{placed, given_games}

abbrev pub bad_line : ℕ → ScheduleLine → List ℕ
bad_line number Bad = concat (codes "bad line " ∷ decimal number ∷ codes "\n" ∷ [])
bad_line number (Round round) = []
bad_line number Other = []

-- the bad ones of the lines, the first of which has this number
abbrev pub bad_lines : ℕ → List (List ℕ) → List ℕ
bad_lines number [] = []
bad_lines number (line ∷ lines) = bad_line number (line_of line) ++ bad_lines (number + 1) lines

abbrev pub no_game_line : ℕ → WrittenGame → List ℕ
no_game_line n w = if is_game_in_range n (placed w) then [] else
    concat (codes "game " ∷ decimal w.home ∷ codes "-" ∷ decimal w.away ∷ codes " of round " ∷ decimal w.round ∷ codes " is none\n" ∷ [])

-- those that are no games of n teams
abbrev pub no_game_lines : ℕ → List WrittenGame → List ℕ
no_game_lines n [] = []
no_game_lines n (w ∷ ws) = no_game_line n w ++ no_game_lines n ws

-- whether the team plays the game, at home or away
abbrev pub plays : ℕ → ℕ → Game → Bool
plays n team x = is_game_in_range n x && (x.home == team || x.away == team)

abbrev pub is_of_team : ℕ → ℕ → ℕ → Game → Bool
is_of_team n team round x = plays n team x && x.round == round

-- how many games of the list a team has in a round
unfoldable pub games_in : ℕ → List Game → ℕ → ℕ → ℕ
games_in n games team round = count_by (is_of_team n team round) games

-- a team has one game in each round
abbrev pub team_line : ℕ → ℕ → ℕ → List ℕ
team_line team round count =
    if count == 1 then []
    else if count == 0 then concat (codes "team " ∷ decimal (team + 1) ∷ codes " has no game in round " ∷ decimal (round + 1) ∷
    codes "\n" ∷ [])
    else concat (codes "team " ∷ decimal (team + 1) ∷ codes " has " ∷ decimal count ∷ codes " games in round " ∷ decimal (round + 1) ∷
    codes "\n" ∷ [])

abbrev pub team_lines : ℕ → List Game → ℕ → List ℕ
team_lines n games team = pieces_below (λ round. team_line team round (games_in n games team round)) (round_count n)

abbrev pub receives : ℕ → ℕ → Game → Bool
receives n home x = is_game_in_range n x && x.home == home

abbrev pub is_of_pair : ℕ → ℕ → ℕ → Game → Bool
is_of_pair n home away x = receives n home x && x.away == away

-- how many games of the list the pair has with this home team
unfoldable pub games_of_pair : ℕ → List Game → ℕ → ℕ → ℕ
games_of_pair n games home away = count_by (is_of_pair n home away) games

-- how often a game stands that should stand once
abbrev pub times_words : ℕ → List ℕ
times_words count =
    if count == 0 then concat (codes " is missing\n" ∷ []) else concat (codes " stands " ∷ decimal count ∷ codes " times\n" ∷ [])

-- two distinct teams have one game with this home team
abbrev pub pair_line : ℕ → ℕ → ℕ → List ℕ
pair_line home away count =
    if home == away || count == 1 then []
    else concat (codes "game " ∷ decimal (home + 1) ∷ codes "-" ∷ decimal (away + 1) ∷ []) ++ times_words count

abbrev pub pair_lines : ℕ → List Game → ℕ → List ℕ
pair_lines n games home = pieces_below (λ away. pair_line home away (games_of_pair n games home away)) n

-- the faults of the games of n teams that a list has
unfoldable pub game_faults : ℕ → List Game → List ℕ
game_faults n games = pieces_below (team_lines n games) n ++ pieces_below (pair_lines n games) n

-- a line for each fault of the last sheet among the lines
abbrev pub faults : ℕ → List (List ℕ) → List ℕ
faults n lines =
    bad_lines 1 (last_sheet lines) ++ no_game_lines n (written_games (last_sheet lines)) ++ game_faults n (given_games lines)

-- the faults of lines that give no double round robin
unfoldable pub faults_text : ℕ → List (List ℕ) → List ℕ
faults_text n lines = faults n lines ++ codes "no double round robin\n"
