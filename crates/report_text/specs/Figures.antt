-- The figures of a report, added up.
use Rattle.std.specs.Prelude.{◌≡◌, ℕ, ◌*◌, List, sum_by}
use Rattle.league.specs.League.{LeagueData}
use Rattle.fixtures.specs.Games.{Games}
use Rattle.costs.specs.declared.cost.Cost.{Cost}
use Rattle.costs.specs.Costs.{cost_of, hard_penalty, soft_penalty}
use Rattle.report_text.specs.CostText.{CostLine, cost_lines, tour, run, repeat, half, of_rule, near}

-- what a line tells of travel
abbrev pub travel_in : CostLine → ℕ
travel_in (tour team travel) = travel
travel_in line = 0

-- of what is hard: the windows of a stretch, a repeat, a pair in one half, and the deviation of a hard rule
abbrev pub hard_in : CostLine → ℕ
hard_in (run team home first last windows) = windows
hard_in (repeat low high first second) = 1
hard_in (half low high first second) = 1
hard_in (of_rule rule i deviation) = hard_penalty rule.weight deviation
hard_in line = 0

-- of that the deviation of a hard rule
abbrev pub of_rules_in : CostLine → ℕ
of_rules_in (of_rule rule i deviation) = hard_penalty rule.weight deviation
of_rules_in line = 0

-- of what is soft: the weighted deviation of a soft rule, and the price of the moved games
abbrev pub soft_in : CostLine → ℕ
soft_in (of_rule rule i deviation) = soft_penalty rule.weight deviation
soft_in (near price moved) = price * moved
soft_in line = 0

-- lines, added up
abbrev pub told_cost : List CostLine → Cost
told_cost lines = record {
  travel = sum_by travel_in lines;
  hard = sum_by hard_in lines;
  of_rules = sum_by of_rules_in lines;
  soft = sum_by soft_in lines;
}

-- the lines of a report add up to the cost, which its first line tells
abbrev pub AddsUp : LeagueData → Games → Type 0
AddsUp l g = told_cost (cost_lines l g) ≡ cost_of l g
