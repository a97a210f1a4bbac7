-- What leaving the start of the league costs, and which games have left it, on a page. Teams and rounds are numbered from 0 in calls,
-- and from 1 in texts.
use Rattle.std.specs.Prelude.{ℕ, ◌+◌, ◌==◌, List, [], ◌∷◌, ◌++◌, codes, decimal, if◌then◌else◌}
use Rattle.std.specs.List.{concat}
use Rattle.fixtures.specs.Games.{Games, round_of}
use Rattle.league.specs.League.{LeagueData}
use Rattle.league.specs.Starts.{is_given, start_round}
use Rattle.byte_streams.specs.Pieces.{pieces_below}
use Rattle.tours.specs.Moved.{is_moved, moved_games}

-- the price of a game that isn't in its round of the start, if it has one, and how many games are not
abbrev pub near_figure : LeagueData → Games → List ℕ
near_figure l g = if l.origin.near == 0 then [] else
    concat (codes "<li>near <b>" ∷ decimal l.origin.near ∷ codes "</b> moved <b>" ∷ decimal (moved_games l g) ∷ codes "</b></li>" ∷ [])

-- a game, its round at the start, and its round now
abbrev pub was_row : ℕ → ℕ → ℕ → ℕ → List ℕ
was_row home away was now =
    concat (codes "<tr><td>" ∷ decimal (home + 1) ∷ codes "-" ∷ decimal (away + 1) ∷ codes "</td><td>" ∷ decimal (was + 1) ∷
    codes "</td><td>" ∷ decimal (now + 1) ∷ codes "</td></tr>" ∷ [])

-- the game in which `home` receives `away`, if it isn't in its round of the start
abbrev pub moved_row : LeagueData → Games → ℕ → ℕ → List ℕ
moved_row l g home away =
    if is_moved (start_round l) g home away then was_row home away (start_round l home away) (round_of g home away) else []

abbrev pub moved_rows : LeagueData → Games → ℕ → List ℕ
moved_rows l g home = pieces_below (moved_row l g home) g.teams

abbrev pub moved_head : List ℕ
moved_head = codes "<h2>Moved games</h2><table><tr><th>Game</th><th>Round at the start</th><th>Round now</th></tr>"

abbrev pub moved_table : LeagueData → Games → List ℕ
moved_table l g = moved_head ++ pieces_below (moved_rows l g) g.teams ++ codes "</table>"

-- of a league alone that begins at a given schedule
abbrev pub moved_section : LeagueData → Games → List ℕ
moved_section l g = if is_given l.origin.start then moved_table l g else []
