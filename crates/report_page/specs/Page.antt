-- The page of a schedule. Teams, rounds and rules are numbered from 0 in calls, and from 1 in texts.
use Rattle.std.specs.Prelude.{ℕ, ◌+◌, ◌==◌, List, [], ◌∷◌, ◌++◌, Bool, true, false, nat_lt, length, slice_get, Option, Some, None}
use Rattle.std.specs.Prelude.{codes, decimal, if◌then◌else◌}
use Rattle.std.specs.Bool.{beq}
use Rattle.std.specs.List.{concat}
use Rattle.fixtures.specs.Games.{Games, round_count}
use Rattle.costs.specs.declared.cost.Cost.{Cost}
use Rattle.costs.specs.Costs.{cost_of, total_of}
use Rattle.league.specs.League.{LeagueData, teams}
use Rattle.league.specs.declared.rule.Rule.{Rule}
use Rattle.league.specs.declared.rule.Weight.{Weight}
use Rattle.league.specs.declared.rule.Weight.TheVariants.{Hard, Soft}
use Rattle.rules.specs.Deviations.{deviation}
use Rattle.byte_streams.specs.Pieces.{pieces_below}
use Rattle.text_lines.specs.Classes.{class_name}
use Rattle.tours.specs.Tours.{travel_of}
use Rattle.report_page.specs.Grid.{grid_text, team_head}
use Rattle.report_page.specs.Labels.{has_title, title_of}
use Rattle.report_page.specs.MovedGames.{moved_section, near_figure}
use Rattle.report_page.specs.Pairings.{rounds_section}
use Rattle.report_page.specs.Pieces.{escaped}
use Rattle.report_page.specs.RuleWords.{rule_words}
use Rattle.report_page.specs.Style.{style_text, word_if}

-- the numbers that the style takes from the page
abbrev pub measures_text : Games → ℕ → List ℕ
measures_text g travel =
    concat (decimal g.teams ∷ codes ";--rounds:" ∷ decimal (round_count g.teams) ∷ codes ";--travel:" ∷ decimal travel ∷ codes "'>" ∷ [])

abbrev pub total_text : Cost → List ℕ
total_text cost =
    if cost.hard == 0 then concat (codes "<li>total <b>" ∷ decimal (total_of cost) ∷ codes "</b></li></ul>" ∷ [])
    else codes "<li class='bad'><b>infeasible</b></li></ul>"

abbrev pub counts_text : LeagueData → Cost → List ℕ
counts_text l cost =
    concat (codes "<h1>" ∷ escaped (title_of l) ∷ word_if (has_title l) (codes ": ") ∷ decimal (teams l) ∷ codes " teams, " ∷
    decimal (round_count (teams l)) ∷ codes " rounds</h1><ul><li>travel <b>" ∷ decimal cost.travel ∷ codes "</b></li><li>hard <b>" ∷
    decimal cost.hard ∷ codes "</b></li><li>soft <b>" ∷ decimal cost.soft ∷ codes "</b></li>" ∷ [])

abbrev pub figures_text : LeagueData → Games → Cost → List ℕ
figures_text l g cost = counts_text l cost ++ near_figure l g ++ total_text cost

-- a team that travels so far, with a bar
abbrev pub travel_row : LeagueData → ℕ → ℕ → List ℕ
travel_row l team travel =
    team_head l team ++ concat (codes "<td>" ∷ decimal travel ∷ codes "</td><td class='bar'><div style='--tour:" ∷ decimal travel ∷
    codes "'></div></td></tr>" ∷ [])

abbrev pub tour_row : LeagueData → Games → ℕ → List ℕ
tour_row l g team = travel_row l team (travel_of l g team)

abbrev pub travel_text : LeagueData → Games → List ℕ
travel_text l g =
    codes "<h2>Travel</h2><p>A bar that ends at the line is as long as the average.</p><table class='travel'>"
    ++ pieces_below (tour_row l g) g.teams ++ codes "</table>"

abbrev pub weight_text : Weight → List ℕ
weight_text Hard = codes "hard"
weight_text (Soft weight) = codes "soft " ++ decimal weight

abbrev pub row_head : Bool → List ℕ
row_head broken = if broken then codes "<tr class='bad'><td>" else codes "<tr><td>"

-- a row up to the rule in words, by its deviation
abbrev pub rule_figures : Bool → ℕ → Rule → ℕ → List ℕ
rule_figures broken i rule by =
    concat (row_head broken ∷ decimal (i + 1) ∷ codes "</td><td>" ∷ class_name rule.body ∷ codes "</td><td>" ∷
    weight_text rule.weight ∷ codes "</td><td>" ∷ decimal by ∷ codes "</td><td>" ∷ [])

-- the rule, if it is broken or not as is asked
abbrev pub rule_row : LeagueData → Games → Bool → ℕ → Rule → List ℕ
rule_row l g broken i rule = if beq (nat_lt 0 (deviation g rule.body)) broken then
    rule_figures broken i rule (deviation g rule.body) ++ rule_words l g rule.body ++ codes "</td></tr>" else []

-- if there is one
abbrev pub rule_row_at : LeagueData → Games → Bool → ℕ → Option Rule → List ℕ
rule_row_at l g broken i None = []
rule_row_at l g broken i (Some rule) = rule_row l g broken i rule

abbrev pub rule_rows : LeagueData → Games → Bool → List ℕ
rule_rows l g broken = pieces_below (λ i. rule_row_at l g broken i (slice_get l.rules i)) (length l.rules)

-- the broken ones before the others
unfoldable pub sorted_rules : LeagueData → Games → List ℕ
sorted_rules l g = rule_rows l g true ++ rule_rows l g false

abbrev pub rules_head : List ℕ
rules_head = concat (codes "<h2>Rules</h2><p>Broken ones first.</p><table class='rules'>" ∷
    codes "<tr><th>Rule</th><th>Class</th><th>Kind</th><th>Deviation</th><th>Words</th></tr>" ∷ [])

abbrev pub rule_table : LeagueData → Games → List ℕ
rule_table l g = rules_head ++ sorted_rules l g ++ codes "</table>"

-- if there are any
abbrev pub rules_text : LeagueData → Games → List ℕ
rules_text l g = if length l.rules == 0 then [] else rule_table l g

abbrev pub costs_text : LeagueData → Games → Cost → List ℕ
costs_text l g cost = style_text l ++ measures_text g cost.travel ++ figures_text l g cost

unfoldable pub top_text : LeagueData → Games → List ℕ
top_text l g = costs_text l g (cost_of l g)

unfoldable pub sections_text : LeagueData → Games → List ℕ
sections_text l g = grid_text l g ++ travel_text l g ++ rules_text l g ++ moved_section l g ++ rounds_section l g

-- the figures, the grid, the travel of each team, the rules, the moved games, and the games by round
unfoldable pub page_text : LeagueData → Games → List ℕ
page_text l g = top_text l g ++ sections_text l g ++ codes "</body></html>\n"
