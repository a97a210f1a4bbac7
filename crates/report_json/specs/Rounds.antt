-- The games and the tours of a schedule as JSON.
use Rattle.std.specs.Prelude.{ℕ, List, [], ◌∷◌, codes, if◌then◌else◌}
use Rattle.serde_json.specs.Data.{Data, string, object, member, no_members}
use Rattle.fixtures.specs.Games.{Games, cell, round_count}
use Rattle.league.specs.League.{LeagueData, name_of}
use Rattle.league.specs.Starts.{start_round}
use Rattle.tours.specs.Tours.{travel_of}
use Rattle.report_json.specs.Parts.{counted, list, parts_below, whole}

-- with its round at the start
abbrev pub game_data : LeagueData → ℕ → ℕ → Data
game_data l home away =
    object (member (codes "away") (counted away) (member (codes "away_name") (string (name_of l away))
    (member (codes "home") (counted home) (member (codes "home_name") (string (name_of l home))
    (member (codes "start") (counted (start_round l home away)) no_members)))))

-- the team's game in the round, if the team is at home there
abbrev pub game_at : LeagueData → Games → ℕ → ℕ → List Data
game_at l g round team = if (cell g team round).home then game_data l team (cell g team round).opponent ∷ [] else []

-- in the order of the home teams
abbrev pub round_data : LeagueData → Games → ℕ → Data
round_data l g round = list (parts_below (game_at l g round) g.teams)

abbrev pub rounds_data : LeagueData → Games → Data
rounds_data l g = list (parts_below (λ round. round_data l g round ∷ []) (round_count g.teams))

-- whose home the team is at in the round
abbrev pub place_of : Games → ℕ → ℕ → ℕ
place_of g team round = if (cell g team round).home then team else (cell g team round).opponent

abbrev pub places_data : Games → ℕ → Data
places_data g team = list (parts_below (λ round. counted (place_of g team round) ∷ []) (round_count g.teams))

abbrev pub tour_data : LeagueData → Games → ℕ → Data
tour_data l g team =
    object (member (codes "places") (places_data g team) (member (codes "team") (counted team)
    (member (codes "travel") (whole (travel_of l g team)) no_members)))

abbrev pub tours_data : LeagueData → Games → Data
tours_data l g = list (parts_below (λ team. tour_data l g team ∷ []) g.teams)

abbrev pub names_data : LeagueData → ℕ → Data
names_data l teams = list (parts_below (λ team. string (name_of l team) ∷ []) teams)
