-- The rules and their breaches as JSON.
use Rattle.std.specs.Prelude.{ℕ, ◌&&◌, ◌||◌, Bool, List, [], ◌∷◌, map, length, slice_get, Option, Some, None, codes, if◌then◌else◌}
use Rattle.serde_json.specs.Data.{Data, null, string, object, member, no_members}
use Rattle.fixtures.specs.Games.{Games, cell, round_count}
use Rattle.league.specs.League.{LeagueData}
use Rattle.league.specs.declared.rule.Rule.{Rule}
use Rattle.league.specs.declared.rule.RuleBody.{RuleBody}
use Rattle.league.specs.declared.rule.Weight.{Weight}
use Rattle.league.specs.declared.rule.Weight.TheVariants.{Hard, Soft}
use Rattle.rules.specs.Deviations.{deviation}
use Rattle.text_lines.specs.Classes.{class_name}
use Rattle.report_breaches.specs.declared.breach.Breach.{Breach}
use Rattle.report_breaches.specs.declared.breach.Place.{Place}
use Rattle.report_breaches.specs.declared.breach.Place.TheVariants.{GamesOf, BreaksOf, Window, Round, Together, GamesOver, GamesUnder, Pair}
use Rattle.report_breaches.specs.declared.breach.Place.TheVariants.{PairIn}
use Rattle.report_breaches.specs.Breaches.{breaches_of}
use Rattle.report_breaches.specs.BreachText.{side_word}
use Rattle.report_breaches.specs.Cells.{names_cell}
use Rattle.report_json.specs.Parts.{both, counted, list, parts_below, whole}

abbrev pub team_place : ℕ → Data
team_place team = object (member (codes "team") (counted team) no_members)

abbrev pub place_data : Place → Data
place_data (GamesOf team) = team_place team
place_data (BreaksOf team) = team_place team
place_data (Window team first last) =
    object (member (codes "rounds") (both first last) (member (codes "team") (counted team) no_members))
place_data (Round round) = object (member (codes "round") (counted round) no_members)
place_data Together = object no_members
place_data GamesOver = object no_members
place_data GamesUnder = object no_members
place_data (Pair low high) = object (member (codes "teams") (both low high) no_members)
place_data (PairIn low high round) =
    object (member (codes "round") (counted round) (member (codes "teams") (both low high) no_members))

abbrev pub named_data : ℕ → ℕ → ℕ → Data
named_data home away round =
    object (member (codes "away") (counted away) (member (codes "home") (counted home) (member (codes "round") (counted round) no_members)))

-- whether the breach at the place names the game of two teams in the round, for one of them
abbrev pub names_game : Games → RuleBody → Place → ℕ → ℕ → ℕ → Bool
names_game g body place team opponent round = names_cell g body place team round || names_cell g body place opponent round

-- the game that the team has at home in the round, if the breach at the place names it
abbrev pub named_at : Games → RuleBody → Place → ℕ → ℕ → List Data
named_at g body place round team =
    if (cell g team round).home && names_game g body place team (cell g team round).opponent round
    then named_data team (cell g team round).opponent round ∷ [] else []

-- in the order of the home teams
abbrev pub named_in : Games → RuleBody → Place → ℕ → List Data
named_in g body place round = parts_below (named_at g body place round) g.teams

-- the games that the breach at the place names, in the order of the rounds
abbrev pub games_named : Games → RuleBody → Place → Data
games_named g body place = list (parts_below (named_in g body place) (round_count g.teams))

abbrev pub breach_data : Games → RuleBody → Breach → Data
breach_data g body breach =
    object (member (codes "by") (whole breach.by) (member (codes "games") (games_named g body breach.place)
    (member (codes "place") (place_data breach.place) (member (codes "side") (string (side_word breach.place)) no_members))))

abbrev pub breaches_data : Games → RuleBody → Data
breaches_data g body = list (map (breach_data g body) (breaches_of g body))

abbrev pub kind_of : Weight → List ℕ
kind_of Hard = codes "hard"
kind_of (Soft weight) = codes "soft"

-- what a unit of deviation costs, if it costs
abbrev pub weight_data : Weight → Data
weight_data Hard = null
weight_data (Soft weight) = whole weight

abbrev pub rule_data : Games → ℕ → Rule → Data
rule_data g i rule =
    object (member (codes "breaches") (breaches_data g rule.body) (member (codes "class") (string (class_name rule.body))
    (member (codes "deviation") (whole (deviation g rule.body)) (member (codes "kind") (string (kind_of rule.weight))
    (member (codes "rule") (counted i) (member (codes "weight") (weight_data rule.weight) no_members))))))

-- if there is one
abbrev pub rule_at : Games → ℕ → Option Rule → List Data
rule_at g i None = []
rule_at g i (Some rule) = rule_data g i rule ∷ []

abbrev pub rules_data : LeagueData → Games → Data
rules_data l g = list (parts_below (λ i. rule_at g i (slice_get l.rules i)) (length l.rules))
