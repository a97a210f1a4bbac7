-- The report of a double round robin as JSON.
use Rattle.std.specs.Prelude.{ℕ, ◌==◌, List, ◌++◌, codes, if◌then◌else◌}
use Rattle.serde_json.specs.Data.{Data, null, boolean, object, member, no_members}
use Rattle.serde_json.specs.Written.{compact_text}
use Rattle.fixtures.specs.Games.{Games}
use Rattle.league.specs.League.{LeagueData, teams}
use Rattle.costs.specs.declared.cost.Cost.{Cost}
use Rattle.costs.specs.Costs.{cost_of, total_of}
use Rattle.tours.specs.Moved.{moved_games}
use Rattle.report_json.specs.Labels.{round_texts_data, short_names_data, title_data}
use Rattle.report_json.specs.Parts.{whole}
use Rattle.report_json.specs.Rounds.{names_data, rounds_data, tours_data}
use Rattle.report_json.specs.Sides.{halves_data, repeats_data, runs_data}
use Rattle.report_json.specs.Rules.{rules_data}

-- if no hard limit is broken
abbrev pub total_data : Cost → Data
total_data cost = if cost.hard == 0 then whole (total_of cost) else null

-- with the price of a game that isn't in its round of the start, and how many games are not
abbrev pub cost_data : LeagueData → Games → Cost → Data
cost_data l g cost =
    object (member (codes "feasible") (boolean (cost.hard == 0)) (member (codes "hard") (whole cost.hard)
    (member (codes "moved") (whole (moved_games l g)) (member (codes "near") (whole l.origin.near)
    (member (codes "soft") (whole cost.soft) (member (codes "total") (total_data cost)
    (member (codes "travel") (whole cost.travel) no_members)))))))

abbrev pub league_data : LeagueData → Data
league_data l =
    object (member (codes "at_most") (whole l.at_most) (member (codes "free_repeats") (boolean l.free_repeats)
    (member (codes "name") (title_data l.labels.title) (member (codes "phased") (boolean l.phased)
    (member (codes "round_texts") (round_texts_data l) (member (codes "short") (short_names_data l)
    (member (codes "teams") (names_data l (teams l)) no_members)))))))

-- the cost, what it is made of, and the games
unfoldable pub report_data : LeagueData → Games → Data
report_data l g =
    object (member (codes "cost") (cost_data l g (cost_of l g)) (member (codes "halves") (halves_data l g)
    (member (codes "league") (league_data l) (member (codes "repeats") (repeats_data l g)
    (member (codes "rounds") (rounds_data l g) (member (codes "rules") (rules_data l g)
    (member (codes "runs") (runs_data g l.at_most) (member (codes "tours") (tours_data l g) no_members))))))))

-- the text of that value with no space in it, and a line end
unfoldable pub json_text : LeagueData → Games → List ℕ
json_text l g = compact_text (report_data l g) ++ codes "\n"
