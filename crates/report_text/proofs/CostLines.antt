-- The text of the lines of a report is what is written part by part.
use Rattle.std.proofs.Common.{◌≡◌, ℕ, zero, suc, ◌-◌, ◌==◌, Bool, true, false, List, [], ◌∷◌, ◌++◌, Option, Some, None, refl, sym, ◌∙◌, ap}
use Rattle.std.proofs.Common.{append_assoc, append-nil, if◌then◌else◌}
use Rattle.std.specs.Prelude.{length, slice_get}
use Rattle.byte_streams.specs.Pieces.{pieces_below}
use Rattle.league.specs.League.{LeagueData}
use Rattle.league.specs.Starts.{is_given, start_round}
use Rattle.league.specs.declared.rule.Rule.{Rule}
use Rattle.fixtures.specs.Games.{Games, round_count}
use Rattle.tours.specs.Moved.{is_moved}
use Rattle.tours.specs.Phased.{is_unphased}
use Rattle.tours.specs.Tours.{travel_of}
use Rattle.rules.specs.Deviations.{deviation}
use Rattle.costs.specs.Costs.{cost_of}
use Rattle.report_breaches.specs.BreachText.{breaches_text}
use Rattle.report_text.specs.CostText.{CostLine, cost_lines, cost_text, costs_line, half_told, halves_told, halves_told_of, leaving_told, line_text}
use Rattle.report_text.specs.CostText.{lines_below, moved_told, moved_told_of, near_told, of_rule, repeat_told, repeats_lower, repeats_told}
use Rattle.report_text.specs.CostText.{repeats_told_after, rule_told, rules_told, run_told, runs_told, runs_told_of, text_of, total_line, tour}
use Rattle.report_text.specs.CostText.{tours_told, was_told}
use Rattle.report_text.specs.Runs.{is_over, ended_streak}
use Rattle.report_text.specs.within.CostText as part

text_both : (xs ys : List CostLine) → text_of (xs ++ ys) ≡ text_of xs ++ text_of ys
text_both [] ys = refl
text_both (x ∷ xs) ys = ap (λ text. line_text x ++ text) (text_both xs ys) ∙ sym (append_assoc (line_text x) (text_of xs) (text_of ys))

-- behind another text
text_then : (front : List ℕ) (xs ys : List CostLine) {p q : List ℕ} → front ++ text_of xs ≡ p → text_of ys ≡ q →
    front ++ text_of (xs ++ ys) ≡ p ++ q
text_then front xs ys first later =
    ap (λ text. front ++ text) (text_both xs ys) ∙ sym (append_assoc front (text_of xs) (text_of ys)) ∙ rw (first, later) refl

-- of lines that come to these texts
text_below : (lines : ℕ → List CostLine) (text : ℕ → List ℕ) → ((i : ℕ) → text_of (lines i) ≡ text i) → (n : ℕ) →
    text_of (lines_below lines n) ≡ pieces_below text n
text_below lines text each zero = refl
text_below lines text each (suc n) =
    text_both (lines_below lines n) (lines n) ∙ rw (text_below lines text each n, each n) refl

text_one : (line : CostLine) → text_of (line ∷ []) ≡ line_text line
text_one line = append-nil (line_text line)

text_if : (test : Bool) (line : CostLine) → text_of (if test then line ∷ [] else []) ≡ (if test then line_text line else [])
text_if true line = text_one line
text_if false line = refl

text_unless : (test : Bool) (line : CostLine) → text_of (if test then [] else line ∷ []) ≡ (if test then [] else line_text line)
text_unless true line = refl
text_unless false line = text_one line

text_where : (test : Bool) (lines : List CostLine) (text : List ℕ) → text_of lines ≡ text →
    text_of (if test then lines else []) ≡ (if test then text else [])
text_where true lines text same = same
text_where false lines text same = refl

text_where_not : (test : Bool) (lines : List CostLine) (text : List ℕ) → text_of lines ≡ text →
    text_of (if test then [] else lines) ≡ (if test then [] else text)
text_where_not true lines text same = refl
text_where_not false lines text same = same

rule_text_is : (g : Games) (i : ℕ) (rule : Option Rule) → text_of (rule_told g i rule) ≡ part.rule_at g i rule
rule_text_is g i None = refl
rule_text_is g i (Some rule) =
    ap (λ text. line_text (of_rule rule i (deviation g rule.body)) ++ text) (append-nil (breaches_text g i rule.body))

module _ (l : LeagueData) (g : Games) where
  tours_text : text_of (tours_told l g) ≡ pieces_below (part.tour_line l g) g.teams
  tours_text = text_below _ (part.tour_line l g) (λ team. text_one (tour team (travel_of l g team))) g.teams

  runs_text : text_of (runs_told l g) ≡ pieces_below (part.run_lines g l.at_most) g.teams
  runs_text =
      text_below (runs_told_of g l.at_most) (part.run_lines g l.at_most) (λ team.
      text_below (λ round. run_told g l.at_most team round (ended_streak (is_over g l.at_most team) round))
      (λ round. part.run_line g l.at_most team round (ended_streak (is_over g l.at_most team) round))
      (λ round. text_unless (ended_streak (is_over g l.at_most team) round == 0) _) (round_count g.teams)) g.teams

  repeats_text : text_of (repeats_told l g) ≡ part.repeats_text l g
  repeats_text =
      text_where_not l.free_repeats _ _
      (text_below (repeats_told_after g) (part.repeat_lines g) (λ round.
      text_below (repeat_told g round) (part.repeat_line g round) (λ team. text_if (repeats_lower g round team) _) g.teams)
      (round_count g.teams - 1))

  halves_text : text_of (halves_told l g) ≡ part.halves_text l g
  halves_text =
      text_where l.phased _ _
      (text_below (halves_told_of g) (part.half_lines g) (λ high.
      text_below (half_told g high) (part.half_line g high) (λ low. text_if (is_unphased g low high) _) high) g.teams)

  rules_text : text_of (rules_told l g) ≡ part.rule_lines l g
  rules_text = text_below _ _ (λ i. rule_text_is g i (slice_get l.rules i)) (length l.rules)

  near_text : text_of (near_told l g) ≡ part.near_line l g
  near_text = text_unless (l.origin.near == 0) _

  moved_text : text_of (moved_told l g) ≡ part.moved_text l g
  moved_text =
      text_where (is_given l.origin.start) _ _
      (text_below (moved_told_of l g) (part.moved_lines l g) (λ home.
      text_below (was_told l g home) (part.moved_line l g home) (λ away. text_if (is_moved (start_round l) g home away) _) g.teams) g.teams)

  leaving_text : text_of (leaving_told l g) ≡ part.leaving_text l g
  leaving_text = text_both (near_told l g) (moved_told l g) ∙ rw (near_text, moved_text) refl

  pub in_parts : cost_text l g ≡ part.parts_text l g
  unfolding cost_text cost_lines part.parts_text
  in_parts =
      let front = costs_line (cost_of l g) in
      ap (λ text. text ++ total_line (cost_of l g))
      (text_then front (tours_told l g ++ runs_told l g ++ repeats_told l g ++ halves_told l g ++ rules_told l g) (leaving_told l g)
      (text_then front (tours_told l g ++ runs_told l g ++ repeats_told l g ++ halves_told l g) (rules_told l g)
      (text_then front (tours_told l g ++ runs_told l g ++ repeats_told l g) (halves_told l g)
      (text_then front (tours_told l g ++ runs_told l g) (repeats_told l g)
      (text_then front (tours_told l g) (runs_told l g) (ap (λ text. front ++ text) tours_text) runs_text) repeats_text) halves_text)
      rules_text) leaving_text)
