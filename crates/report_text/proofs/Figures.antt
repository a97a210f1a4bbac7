-- The lines of a report add up to the cost.
use Rattle.std.proofs.Common.{◌≡◌, ℕ, zero, suc, ◌+◌, ◌-◌, ◌*◌, ◌==◌, Bool, true, false, List, [], ◌∷◌, ◌++◌, Option, Some, None, refl, sym, ◌∙◌, ap}
use Rattle.std.proofs.Common.{arith, if◌then◌else◌, zero-mul}
use Rattle.std.specs.Prelude.{length, slice_get, sum_by}
use Rattle.std.proofs.lemmas.Bool.Decides.{nat_tests}
use Rattle.std.proofs.lemmas.List.Sums.{sum_by-append}
use Rattle.league.specs.League.{LeagueData, IsLeague}
use Rattle.league.specs.Starts.{is_given, start_round}
use Rattle.league.specs.Sums.{sum_below}
use Rattle.league.specs.declared.rule.Rule.{Rule}
use Rattle.league.proofs.ForCallers.{sum_below_same, sum_below_zero}
use Rattle.fixtures.specs.Games.{Games, round_count, round_of, cell, IsDoubleRoundRobin}
use Rattle.tours.specs.Moved.{is_moved, moved_games}
use Rattle.tours.specs.Phased.{is_unphased}
use Rattle.tours.specs.Tours.{travel_of}
use Rattle.costs.specs.Costs.{hard_penalty, near_cost, penalty_of, soft_penalty, sum_over_rules, unless_free, where_phased}
use Rattle.report_text.specs.CostText.{CostLine, cost_lines, half, half_told, halves_told, halves_told_of, leaving_told, lines_below, moved_told}
use Rattle.report_text.specs.CostText.{moved_told_of, near, near_told, repeat, repeat_told, repeats_lower, repeats_told, repeats_told_after, rule_told}
use Rattle.report_text.specs.CostText.{rules_told, run, run_told, runs_told, runs_told_of, tour, tours_told, was, was_told}
use Rattle.report_text.specs.Figures.{AddsUp, hard_in, of_rules_in, soft_in, told_cost, travel_in}
use Rattle.report_text.specs.Runs.{is_over, ended_streak}
use Rattle.report_text.proofs.Parts.{half_count, parts_add_up, parts_cost, repeat_count, window_count}

sum_below_lines : (f : CostLine → ℕ) (lines : ℕ → List CostLine) (n : ℕ) → sum_by f (lines_below lines n) ≡ sum_below n (λ i. sum_by f (lines i))
unfolding sum_below
sum_below_lines f lines zero = refl
sum_below_lines f lines (suc n) =
    sum_by-append f (lines_below lines n) (lines n) ∙ ap (λ s. s + sum_by f (lines n)) (sum_below_lines f lines n)

-- of lines that tell so much
told_below : (f : CostLine → ℕ) (lines : ℕ → List CostLine) (told : ℕ → ℕ) → ((i : ℕ) → sum_by f (lines i) ≡ told i) → (n : ℕ) →
    sum_by f (lines_below lines n) ≡ sum_below n told
told_below f lines told each n = sum_below_lines f lines n ∙ sum_below_same n _ told (λ i below. each i)

-- of lines that tell nothing
none_below : (f : CostLine → ℕ) (lines : ℕ → List CostLine) → ((i : ℕ) → sum_by f (lines i) ≡ 0) → (n : ℕ) →
    sum_by f (lines_below lines n) ≡ 0
none_below f lines each n = sum_below_lines f lines n ∙ sum_below_zero n _ (λ i below. each i)

told_one : (f : CostLine → ℕ) (line : CostLine) (told : ℕ) → f line ≡ told → sum_by f (line ∷ []) ≡ told
told_one f line told is = omega (arith, is)

told_if : (f : CostLine → ℕ) (test : Bool) (lines : List CostLine) (told : ℕ) → sum_by f lines ≡ told →
    sum_by f (if test then lines else []) ≡ (if test then told else 0)
told_if f true lines told same = same
told_if f false lines told same = refl

none_if : (f : CostLine → ℕ) (test : Bool) (lines : List CostLine) → sum_by f lines ≡ 0 → sum_by f (if test then lines else []) ≡ 0
none_if f true lines none = none
none_if f false lines none = refl

told_where_not : (f : CostLine → ℕ) (test : Bool) (lines : List CostLine) (told : ℕ) → sum_by f lines ≡ told →
    sum_by f (if test then [] else lines) ≡ (if test then 0 else told)
told_where_not f true lines told same = refl
told_where_not f false lines told same = same

none_unless : (f : CostLine → ℕ) (test : Bool) (lines : List CostLine) → sum_by f lines ≡ 0 →
    sum_by f (if test then [] else lines) ≡ 0
none_unless f true lines none = refl
none_unless f false lines none = none

told_unless : (f : CostLine → ℕ) (test : Bool) (line : CostLine) (told : ℕ) → (test ≡ true → told ≡ 0) → f line ≡ told →
    sum_by f (if test then [] else line ∷ []) ≡ told
told_unless f true line told none is = sym (none refl)
told_unless f false line told none is = told_one f line told is

is_zero : (n : ℕ) → (n == 0) ≡ true → n ≡ 0
is_zero n is = grind (arith, nat_tests)

no_price : (price moved : ℕ) → (price == 0) ≡ true → price * moved ≡ 0
no_price price moved is = rw (is_zero price is) (zero-mul moved)

rule_travel : (g : Games) (i : ℕ) (rule : Option Rule) → sum_by travel_in (rule_told g i rule) ≡ 0
rule_travel g i None = refl
rule_travel g i (Some rule) = refl

rule_hard : (g : Games) (i : ℕ) (rule : Option Rule) → sum_by hard_in (rule_told g i rule) ≡ penalty_of hard_penalty g rule
rule_hard g i None = refl
rule_hard g i (Some rule) = omega arith

rule_of_rules : (g : Games) (i : ℕ) (rule : Option Rule) → sum_by of_rules_in (rule_told g i rule) ≡ penalty_of hard_penalty g rule
rule_of_rules g i None = refl
rule_of_rules g i (Some rule) = omega arith

rule_soft : (g : Games) (i : ℕ) (rule : Option Rule) → sum_by soft_in (rule_told g i rule) ≡ penalty_of soft_penalty g rule
rule_soft g i None = refl
rule_soft g i (Some rule) = omega arith

sum_then : (f : CostLine → ℕ) (xs ys : List CostLine) {p q : ℕ} → sum_by f xs ≡ p → sum_by f ys ≡ q → sum_by f (xs ++ ys) ≡ p + q
sum_then f xs ys first later = sum_by-append f xs ys ∙ rw (first, later) refl

module _ (l : LeagueData) (g : Games) where
  -- the sum over all lines is that over the parts
  by_parts : (f : CostLine → ℕ) {tours runs repeats halves rules price moved : ℕ} → sum_by f (tours_told l g) ≡ tours →
      sum_by f (runs_told l g) ≡ runs → sum_by f (repeats_told l g) ≡ repeats → sum_by f (halves_told l g) ≡ halves →
      sum_by f (rules_told l g) ≡ rules → sum_by f (near_told l g) ≡ price → sum_by f (moved_told l g) ≡ moved →
      sum_by f (cost_lines l g) ≡ tours + runs + repeats + halves + rules + (price + moved)
  unfolding cost_lines
  by_parts f tours runs repeats halves rules price moved =
      sum_then f (tours_told l g ++ runs_told l g ++ repeats_told l g ++ halves_told l g ++ rules_told l g) (leaving_told l g)
      (sum_then f (tours_told l g ++ runs_told l g ++ repeats_told l g ++ halves_told l g) (rules_told l g)
      (sum_then f (tours_told l g ++ runs_told l g ++ repeats_told l g) (halves_told l g)
      (sum_then f (tours_told l g ++ runs_told l g) (repeats_told l g)
      (sum_then f (tours_told l g) (runs_told l g) tours runs) repeats) halves) rules)
      (sum_then f (near_told l g) (moved_told l g) price moved)

  -- parts that tell nothing of a kind
  tours_none : (f : CostLine → ℕ) → ((team travel : ℕ) → f (tour team travel) ≡ 0) → sum_by f (tours_told l g) ≡ 0
  tours_none f each = none_below f _ (λ team. told_one f _ 0 (each team (travel_of l g team))) g.teams

  runs_none : (f : CostLine → ℕ) → ((team : ℕ) (home : Bool) (first last windows : ℕ) → f (run team home first last windows) ≡ 0) →
      sum_by f (runs_told l g) ≡ 0
  runs_none f each =
      none_below f (runs_told_of g l.at_most) (λ team.
      none_below f (λ round. run_told g l.at_most team round (ended_streak (is_over g l.at_most team) round)) (λ round.
      told_unless f (ended_streak (is_over g l.at_most team) round == 0) _ 0 (λ none. refl) (each _ _ _ _ _)) (round_count g.teams)) g.teams

  repeats_none : (f : CostLine → ℕ) → ((low high first second : ℕ) → f (repeat low high first second) ≡ 0) →
      sum_by f (repeats_told l g) ≡ 0
  repeats_none f each =
      none_unless f l.free_repeats _
      (none_below f (repeats_told_after g) (λ round.
      none_below f (repeat_told g round) (λ team. none_if f (repeats_lower g round team) _ (told_one f _ 0 (each _ _ _ _))) g.teams)
      (round_count g.teams - 1))

  halves_none : (f : CostLine → ℕ) → ((low high first second : ℕ) → f (half low high first second) ≡ 0) →
      sum_by f (halves_told l g) ≡ 0
  halves_none f each =
      none_if f l.phased _
      (none_below f (halves_told_of g) (λ high.
      none_below f (half_told g high) (λ low. none_if f (is_unphased g low high) _ (told_one f _ 0 (each _ _ _ _))) high) g.teams)

  moved_none : (f : CostLine → ℕ) → ((home away before now : ℕ) → f (was home away before now) ≡ 0) →
      sum_by f (moved_told l g) ≡ 0
  moved_none f each =
      none_if f (is_given l.origin.start) _
      (none_below f (moved_told_of l g) (λ home.
      none_below f (was_told l g home) (λ away. none_if f (is_moved (start_round l) g home away) _ (told_one f _ 0 (each _ _ _ _)))
      g.teams) g.teams)

  near_none : (f : CostLine → ℕ) → ((price moved : ℕ) → f (near price moved) ≡ 0) → sum_by f (near_told l g) ≡ 0
  near_none f each = told_unless f (l.origin.near == 0) _ 0 (λ none. refl) (each _ _)

  travel_told : sum_by travel_in (cost_lines l g) ≡ sum_below g.teams (travel_of l g)
  travel_told =
      by_parts travel_in (told_below travel_in _ (travel_of l g) (λ team. told_one travel_in (tour team (travel_of l g team)) _ refl) g.teams)
      (runs_none travel_in (λ team home first last windows. refl)) (repeats_none travel_in (λ low high first second. refl))
      (halves_none travel_in (λ low high first second. refl))
      (none_below travel_in _ (λ i. rule_travel g i (slice_get l.rules i)) (length l.rules)) (near_none travel_in (λ price moved. refl))
      (moved_none travel_in (λ home away before now. refl)) ∙ omega arith

  hard_told : sum_by hard_in (cost_lines l g) ≡
      sum_below g.teams (window_count g l.at_most) + unless_free l (repeat_count g) + sum_over_rules hard_penalty l.rules g +
      where_phased l (half_count g)
  unfolding sum_over_rules
  hard_told =
      by_parts hard_in (tours_none hard_in (λ team travel. refl))
      (told_below hard_in (runs_told_of g l.at_most) (window_count g l.at_most) (λ team.
      told_below hard_in _ (ended_streak (is_over g l.at_most team)) (λ round.
      told_unless hard_in (ended_streak (is_over g l.at_most team) round == 0) _ _ (is_zero _) refl) (round_count g.teams)) g.teams)
      (told_where_not hard_in l.free_repeats _ (repeat_count g)
      (told_below hard_in (repeats_told_after g) _ (λ round.
      told_below hard_in (repeat_told g round) _ (λ team.
      told_if hard_in (repeats_lower g round team) _ 1
      (told_one hard_in (repeat (cell g team round).opponent team round (round + 1)) 1 refl)) g.teams)
      (round_count g.teams - 1)))
      (told_if hard_in l.phased _ (half_count g)
      (told_below hard_in (halves_told_of g) _ (λ high.
      told_below hard_in (half_told g high) _ (λ low.
      told_if hard_in (is_unphased g low high) _ 1 (told_one hard_in (half low high (round_of g low high) (round_of g high low)) 1 refl)) high) g.teams))
      (told_below hard_in _ _ (λ i. rule_hard g i (slice_get l.rules i)) (length l.rules)) (near_none hard_in (λ price moved. refl))
      (moved_none hard_in (λ home away before now. refl)) ∙ omega arith

  of_rules_told : sum_by of_rules_in (cost_lines l g) ≡ sum_over_rules hard_penalty l.rules g
  unfolding sum_over_rules
  of_rules_told =
      by_parts of_rules_in (tours_none of_rules_in (λ team travel. refl)) (runs_none of_rules_in (λ team home first last windows. refl))
      (repeats_none of_rules_in (λ low high first second. refl)) (halves_none of_rules_in (λ low high first second. refl))
      (told_below of_rules_in _ _ (λ i. rule_of_rules g i (slice_get l.rules i)) (length l.rules)) (near_none of_rules_in (λ price moved. refl))
      (moved_none of_rules_in (λ home away before now. refl)) ∙ omega arith

  soft_told : sum_by soft_in (cost_lines l g) ≡ sum_over_rules soft_penalty l.rules g + near_cost l g
  unfolding sum_over_rules
  soft_told =
      by_parts soft_in (tours_none soft_in (λ team travel. refl)) (runs_none soft_in (λ team home first last windows. refl))
      (repeats_none soft_in (λ low high first second. refl)) (halves_none soft_in (λ low high first second. refl))
      (told_below soft_in _ _ (λ i. rule_soft g i (slice_get l.rules i)) (length l.rules))
      (told_unless soft_in (l.origin.near == 0) _ (near_cost l g) (no_price l.origin.near (moved_games l g)) refl)
      (moved_none soft_in (λ home away before now. refl)) ∙ omega arith

  -- in all
  lines_told : told_cost (cost_lines l g) ≡ parts_cost l g
  lines_told = rw (travel_told, hard_told, of_rules_told, soft_told) refl

pub adds_up : (l : LeagueData) (g : Games) → IsLeague l → IsDoubleRoundRobin g → AddsUp l g
adds_up l g is_league is_round_robin = lines_told l g ∙ parts_add_up l g is_league is_round_robin
