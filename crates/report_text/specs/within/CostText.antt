-- What private functions alone need beside specs/CostText.antt: the text, part by part.
use Rattle.std.specs.Prelude.{ℕ, ◌+◌, ◌-◌, ◌==◌, List, [], ◌++◌, length, slice_get, Option, Some, None, if◌then◌else◌}
use Rattle.byte_streams.specs.Pieces.{pieces_below}
use Rattle.league.specs.League.{LeagueData}
use Rattle.league.specs.Starts.{is_given, start_round}
use Rattle.league.specs.declared.rule.Rule.{Rule}
use Rattle.league.specs.declared.rule.Weight.{Weight}
use Rattle.fixtures.specs.Games.{Games, round_count, round_of, cell, is_home}
use Rattle.tours.specs.Moved.{is_moved, moved_games}
use Rattle.tours.specs.Phased.{is_unphased}
use Rattle.tours.specs.Tours.{travel_of}
use Rattle.rules.specs.Deviations.{deviation}
use Rattle.costs.specs.Costs.{cost_of}
use Rattle.report_breaches.specs.BreachText.{breaches_text}
use Rattle.report_text.specs.CostText.{costs_line, half, line_text, near, repeat, repeats_lower, rule_words, run, total_line, tour, was}
use Rattle.report_text.specs.Runs.{is_over, ended_streak}

abbrev pub tour_line : LeagueData → Games → ℕ → List ℕ
tour_line l g team = line_text (tour team (travel_of l g team))

abbrev pub run_line : Games → ℕ → ℕ → ℕ → ℕ → List ℕ
run_line g at_most team round count = if count == 0 then [] else
    line_text (run team (is_home g team (round - 1)) (round - count + 1) (round + at_most) count)

abbrev pub run_lines : Games → ℕ → ℕ → List ℕ
run_lines g at_most team =
    pieces_below (λ round. run_line g at_most team round (ended_streak (is_over g at_most team) round)) (round_count g.teams)

abbrev pub repeat_line : Games → ℕ → ℕ → List ℕ
repeat_line g round team =
    if repeats_lower g round team then line_text (repeat (cell g team round).opponent team round (round + 1)) else []

abbrev pub repeat_lines : Games → ℕ → List ℕ
repeat_lines g round = pieces_below (repeat_line g round) g.teams

abbrev pub repeats_text : LeagueData → Games → List ℕ
repeats_text l g = if l.free_repeats then [] else pieces_below (repeat_lines g) (round_count g.teams - 1)

abbrev pub half_line : Games → ℕ → ℕ → List ℕ
half_line g high low = if is_unphased g low high then line_text (half low high (round_of g low high) (round_of g high low)) else []

abbrev pub half_lines : Games → ℕ → List ℕ
half_lines g high = pieces_below (half_line g high) high

abbrev pub halves_text : LeagueData → Games → List ℕ
halves_text l g = if l.phased then pieces_below (half_lines g) g.teams else []

abbrev pub rule_line : Games → ℕ → Rule → Weight → List ℕ
rule_line g i rule weight = rule_words i rule (deviation g rule.body) weight

abbrev pub rule_text : Games → ℕ → Rule → List ℕ
rule_text g i rule = rule_line g i rule rule.weight ++ breaches_text g i rule.body

abbrev pub rule_at : Games → ℕ → Option Rule → List ℕ
rule_at g i None = []
rule_at g i (Some rule) = rule_text g i rule

abbrev pub rule_lines : LeagueData → Games → List ℕ
rule_lines l g = pieces_below (λ i. rule_at g i (slice_get l.rules i)) (length l.rules)

abbrev pub near_line : LeagueData → Games → List ℕ
near_line l g = if l.origin.near == 0 then [] else line_text (near l.origin.near (moved_games l g))

abbrev pub was_line : ℕ → ℕ → ℕ → ℕ → List ℕ
was_line home away before now = line_text (was home away before now)

abbrev pub moved_line : LeagueData → Games → ℕ → ℕ → List ℕ
moved_line l g home away =
    if is_moved (start_round l) g home away then was_line home away (start_round l home away) (round_of g home away) else []

abbrev pub moved_lines : LeagueData → Games → ℕ → List ℕ
moved_lines l g home = pieces_below (moved_line l g home) g.teams

abbrev pub moved_text : LeagueData → Games → List ℕ
moved_text l g = if is_given l.origin.start then pieces_below (moved_lines l g) g.teams else []

abbrev pub leaving_text : LeagueData → Games → List ℕ
leaving_text l g = near_line l g ++ moved_text l g

unfoldable pub parts_text : LeagueData → Games → List ℕ
parts_text l g =
    costs_line (cost_of l g) ++ pieces_below (tour_line l g) g.teams ++ pieces_below (run_lines g l.at_most) g.teams ++
    repeats_text l g ++ halves_text l g ++ rule_lines l g ++ leaving_text l g ++
    total_line (cost_of l g)
