-- What a double round robin costs, as lines, and which tour, run, repeat, pair, rule and moved game costs how much. Teams and rounds are
-- numbered from 0 in calls, and from 1 in texts.
use Rattle.std.specs.Prelude.{ℕ, zero, suc, ◌+◌, ◌-◌, ◌==◌, Bool, ◌&&◌, nat_lt, List, [], ◌∷◌, ◌++◌, length, slice_get, Option, Some, None}
use Rattle.std.specs.Prelude.{codes, decimal, if◌then◌else◌}
use Rattle.std.specs.List.{concat}
use Rattle.league.specs.League.{LeagueData}
use Rattle.league.specs.Starts.{is_given, start_round}
use Rattle.league.specs.declared.rule.Rule.{Rule}
use Rattle.league.specs.declared.rule.Weight.{Weight}
use Rattle.league.specs.declared.rule.Weight.TheVariants.{Hard, Soft}
use Rattle.fixtures.specs.Games.{Games, round_count, round_of, cell, is_home}
use Rattle.tours.specs.Moved.{is_moved, moved_games}
use Rattle.tours.specs.Phased.{is_unphased}
use Rattle.tours.specs.Tours.{travel_of}
use Rattle.rules.specs.Deviations.{deviation}
use Rattle.costs.specs.declared.cost.Cost.{Cost}
use Rattle.costs.specs.Costs.{cost_of, total_of}
use Rattle.text_lines.specs.Classes.{class_name}
use Rattle.report_breaches.specs.BreachText.{breaches_text}
use Rattle.report_text.specs.Runs.{is_over, ended_streak}

-- a line, with its numbers
pub data CostLine : Type 0 where
  -- a team, and how far it travels
  tour : ℕ → ℕ → CostLine
  -- a team, whether it is at home, the first and the last round of a stretch as they are told, and how many windows it has
  run : ℕ → Bool → ℕ → ℕ → ℕ → CostLine
  -- a pair, the lower team first, and the two rounds in a row in which it meets
  repeat : ℕ → ℕ → ℕ → ℕ → CostLine
  -- a pair that plays both its games in one half of the season, and their rounds
  half : ℕ → ℕ → ℕ → ℕ → CostLine
  -- a rule, its index, and its deviation
  of_rule : Rule → ℕ → ℕ → CostLine
  -- the breaches of the rule before it, told one after another
  of_breaches : List ℕ → CostLine
  -- the price of a game that isn't in its round of the start, and how many games are not
  near : ℕ → ℕ → CostLine
  -- a game, its round at the start, and its round now
  was : ℕ → ℕ → ℕ → ℕ → CostLine

abbrev pub side_word : Bool → List ℕ
side_word home = if home then codes " home rounds " else codes " away rounds "

-- two games of a pair, each by its round
abbrev pub meetings_line : List ℕ → ℕ → ℕ → ℕ → ℕ → List ℕ
meetings_line word low high first second =
    concat (word ∷ decimal (low + 1) ∷ codes "-" ∷ decimal (high + 1) ∷ codes " rounds " ∷ decimal (first + 1) ∷ codes " " ∷
    decimal (second + 1) ∷ codes "\n" ∷ [])

abbrev pub rule_words : ℕ → Rule → ℕ → Weight → List ℕ
rule_words i rule deviation Hard =
    concat (codes "rule " ∷ decimal (i + 1) ∷ codes " " ∷ class_name rule.body ∷ codes " hard deviation " ∷ decimal deviation ∷
    codes "\n" ∷ [])
rule_words i rule deviation (Soft weight) =
    concat (codes "rule " ∷ decimal (i + 1) ∷ codes " " ∷ class_name rule.body ∷ codes " soft " ∷ decimal weight ∷
    codes " deviation " ∷ decimal deviation ∷ codes "\n" ∷ [])

-- the text of a line
abbrev pub line_text : CostLine → List ℕ
line_text (tour team travel) = concat (codes "tour " ∷ decimal (team + 1) ∷ codes " travel " ∷ decimal travel ∷ codes "\n" ∷ [])
line_text (run team home first last windows) =
    concat (codes "run " ∷ decimal (team + 1) ∷ side_word home ∷ decimal first ∷ codes "-" ∷ decimal last ∷
    codes " windows " ∷ decimal windows ∷ codes "\n" ∷ [])
line_text (repeat low high first second) = meetings_line (codes "repeat ") low high first second
line_text (half low high first second) = meetings_line (codes "half ") low high first second
line_text (of_rule rule i deviation) = rule_words i rule deviation rule.weight
line_text (of_breaches text) = text
line_text (near price moved) = concat (codes "near " ∷ decimal price ∷ codes " moved " ∷ decimal moved ∷ codes "\n" ∷ [])
line_text (was home away before now) =
    concat (codes "was " ∷ decimal (home + 1) ∷ codes "-" ∷ decimal (away + 1) ∷ codes " round " ∷ decimal (before + 1) ∷
    codes " now " ∷ decimal (now + 1) ∷ codes "\n" ∷ [])

-- the lines of the numbers below n, one after another
abbrev pub lines_below : (ℕ → List CostLine) → ℕ → List CostLine
lines_below lines zero = []
lines_below lines (suc n) = lines_below lines n ++ lines n

abbrev pub tours_told : LeagueData → Games → List CostLine
tours_told l g = lines_below (λ team. tour team (travel_of l g team) ∷ []) g.teams

-- a stretch of this many windows, the last of which begins with the round before this one
abbrev pub run_told : Games → ℕ → ℕ → ℕ → ℕ → List CostLine
run_told g at_most team round count = if count == 0 then [] else
    run team (is_home g team (round - 1)) (round - count + 1) (round + at_most) count ∷ []

-- the stretches of a team at home or away that are longer than allowed, each with its windows
abbrev pub runs_told_of : Games → ℕ → ℕ → List CostLine
runs_told_of g at_most team =
    lines_below (λ round. run_told g at_most team round (ended_streak (is_over g at_most team) round)) (round_count g.teams)

abbrev pub runs_told : LeagueData → Games → List CostLine
runs_told l g = lines_below (runs_told_of g l.at_most) g.teams

-- whether a team meets the same lower team in a round and in the next
abbrev pub repeats_lower : Games → ℕ → ℕ → Bool
repeats_lower g round team =
    nat_lt (cell g team round).opponent team && (cell g team round).opponent == (cell g team (round + 1)).opponent

abbrev pub repeat_told : Games → ℕ → ℕ → List CostLine
repeat_told g round team =
    if repeats_lower g round team then repeat (cell g team round).opponent team round (round + 1) ∷ [] else []

abbrev pub repeats_told_after : Games → ℕ → List CostLine
repeats_told_after g round = lines_below (repeat_told g round) g.teams

-- unless they are free
abbrev pub repeats_told : LeagueData → Games → List CostLine
repeats_told l g = if l.free_repeats then [] else lines_below (repeats_told_after g) (round_count g.teams - 1)

-- the pair plays both its games in one half of the season
abbrev pub half_told : Games → ℕ → ℕ → List CostLine
half_told g high low = if is_unphased g low high then half low high (round_of g low high) (round_of g high low) ∷ [] else []

abbrev pub halves_told_of : Games → ℕ → List CostLine
halves_told_of g high = lines_below (half_told g high) high

-- of a phased league alone
abbrev pub halves_told : LeagueData → Games → List CostLine
halves_told l g = if l.phased then lines_below (halves_told_of g) g.teams else []

-- a rule, and behind it its breaches; if there is one
abbrev pub rule_told : Games → ℕ → Option Rule → List CostLine
rule_told g i None = []
rule_told g i (Some rule) = of_rule rule i (deviation g rule.body) ∷ of_breaches (breaches_text g i rule.body) ∷ []

-- the rules in their order
abbrev pub rules_told : LeagueData → Games → List CostLine
rules_told l g = lines_below (λ i. rule_told g i (slice_get l.rules i)) (length l.rules)

-- what leaving the start costs, if it has a price
abbrev pub near_told : LeagueData → Games → List CostLine
near_told l g = if l.origin.near == 0 then [] else near l.origin.near (moved_games l g) ∷ []

-- the game in which `home` receives `away`, if it isn't in its round of the start
abbrev pub was_told : LeagueData → Games → ℕ → ℕ → List CostLine
was_told l g home away =
    if is_moved (start_round l) g home away then was home away (start_round l home away) (round_of g home away) ∷ [] else []

abbrev pub moved_told_of : LeagueData → Games → ℕ → List CostLine
moved_told_of l g home = lines_below (was_told l g home) g.teams

-- of a league alone that begins at a given schedule
abbrev pub moved_told : LeagueData → Games → List CostLine
moved_told l g = if is_given l.origin.start then lines_below (moved_told_of l g) g.teams else []

abbrev pub leaving_told : LeagueData → Games → List CostLine
leaving_told l g = near_told l g ++ moved_told l g

-- what the cost is made of
unfoldable pub cost_lines : LeagueData → Games → List CostLine
cost_lines l g = tours_told l g ++ runs_told l g ++ repeats_told l g ++ halves_told l g ++ rules_told l g ++ leaving_told l g

-- the texts of lines, one after another
abbrev pub text_of : List CostLine → List ℕ
text_of [] = []
text_of (line ∷ lines) = line_text line ++ text_of lines

abbrev pub costs_line : Cost → List ℕ
costs_line cost =
    concat (codes "travel " ∷ decimal cost.travel ∷ codes " hard " ∷ decimal cost.hard ∷ codes " soft " ∷ decimal cost.soft ∷
    codes "\n" ∷ [])

abbrev pub total_line : Cost → List ℕ
total_line cost = if cost.hard == 0 then concat (codes "total " ∷ decimal (total_of cost) ∷ codes "\n" ∷ []) else codes "infeasible\n"

-- the cost, what it is made of, and the total
unfoldable pub cost_text : LeagueData → Games → List ℕ
cost_text l g = costs_line (cost_of l g) ++ text_of (cost_lines l g) ++ total_line (cost_of l g)
