-- What a place counts is what the deviation does.
use Rattle.std.proofs.Common.{◌≡◌, ℕ, ◌+◌, ◌-◌, ◌≤◌, Bool, true, false, inl, inr, refl, ◌∙◌, ap, arith}
use Rattle.std.specs.Prelude.{◌&&◌, ◌==◌, if◌then◌else◌}
use Rattle.std.proofs.Math.Nat.{zero-add}
use Rattle.std.proofs.lemmas.Bool.{cases_Bool, eq-eqb, le-leb}
use Rattle.league.specs.Sets.{has}
use Rattle.league.specs.Sums.{sum_where}
use Rattle.league.proofs.ForCallers.{count_where_same, count_where_none, sum_below_same, sum_below_swap}
use Rattle.league.specs.declared.rule.RuleBody.TheVariants.{Ca1, Ca2, Ca3, Ca4, Br2}
use Rattle.league.specs.declared.rule.Side.{Side}
use Rattle.league.specs.declared.rule.Side.TheVariants.{Any}
use Rattle.fixtures.specs.Games.{Games, round_count}
use Rattle.rules.specs.Deviations.{over, is_break, games_of_team, games_in_window, games_in_round, breaks}
use Rattle.report_breaches.specs.declared.breach.Place.TheVariants.{GamesOf, Round, Together}
use Rattle.report_breaches.specs.Breaches.{window_at}
use Rattle.report_breaches.specs.Cells.{names_cell}
use Rattle.report_breaches.specs.within.Terms.{amount, is_of_rule, named_at, place_at}

same_team : (team : ℕ) → (team == team) ≡ true
same_team team = eq-eqb team team refl

module _ (g : Games) (side : Side) (slots most : ℕ) where
  pub of_team_against_all : (teams team : ℕ) →
      named_at g (Ca1 teams side slots most) (GamesOf team) ≡ games_of_team g side (λ _. true) (has slots) team
  unfolding names_cell games_of_team
  of_team_against_all teams team =
      let whole : round_count g.teams - 0 ≡ round_count g.teams = omega arith in
      rw whole (count_where_same (round_count g.teams) _ _ (λ r below. rw (zero-add r, same_team team) refl))

  pub of_team : (teams opponents team : ℕ) →
      named_at g (Ca2 teams side opponents slots most) (GamesOf team) ≡ games_of_team g side (has opponents) (has slots) team
  unfolding names_cell games_of_team
  of_team teams opponents team =
      let whole : round_count g.teams - 0 ≡ round_count g.teams = omega arith in
      rw whole (count_where_same (round_count g.teams) _ _ (λ r below. rw (zero-add r, same_team team) refl))

  pub in_round : (teams opponents round : ℕ) → has slots round ≡ true →
      named_at g (Ca4 teams side opponents slots true most) (Round round) ≡ games_in_round g side (has teams) (has opponents) round
  unfolding names_cell games_in_round
  in_round teams opponents round is_slot =
      count_where_same g.teams _ _ (λ t below. rw (same_team round, is_slot) refl)

  pub of_all : (teams opponents : ℕ) →
      named_at g (Ca4 teams side opponents slots false most) Together ≡
      sum_where (round_count g.teams) (has slots) (games_in_round g side (has teams) (has opponents))
  unfolding names_cell games_in_round
  of_all teams opponents = sum_below_same (round_count g.teams) _ _ (λ r below. elim (cases_Bool (has slots r)) [
    | inl is_slot ↦ rw is_slot refl
    | inr no_slot ↦ rw no_slot (count_where_none g.teams (λ _. false) (λ t t_below. refl))
  ])

  pub in_window : (teams opponents window team first : ℕ) → 1 ≤ window →
      named_at g (Ca3 teams side opponents window most) (window_at window team first) ≡
      games_in_window g side (has opponents) window team first
  unfolding names_cell games_in_window
  in_window teams opponents window team first some =
      let wide : first + window - 1 + 1 - first ≡ window = omega arith in
      rw wide (count_where_same window _ _
      (λ k below. rw (same_team team, le-leb first (first + k) (omega arith), le-leb (first + k) (first + window - 1) (omega (arith, below)))
      refl))

pub of_all_breaks : (g : Games) (teams slots most : ℕ) →
    named_at g (Br2 teams slots most) Together ≡ sum_where g.teams (has teams) (λ t. breaks g t (has slots) Any)
unfolding names_cell breaks
of_all_breaks g teams slots most =
    sum_below_swap (round_count g.teams) g.teams (λ r t. if has teams t && (has slots r && is_break g Any t r) then 1 else 0) ∙
    sum_below_same g.teams _ _ (λ t below. elim (cases_Bool (has teams t)) [
      | inl is_in ↦ rw is_in refl
      | inr is_out ↦ rw is_out (count_where_none (round_count g.teams) (λ _. false) (λ r r_below. refl))
    ])

-- each slot by itself, or all together
pub each_or_all : (g : Games) (side : Side) (slots most teams opponents row column : ℕ) (each : Bool) →
    is_of_rule (Ca4 teams side opponents slots each most) row column ≡ true →
    over (named_at g (Ca4 teams side opponents slots each most) (place_at g (Ca4 teams side opponents slots each most) row column)) most ≡
    amount g (Ca4 teams side opponents slots each most) row column
each_or_all g side slots most teams opponents row column true is_slot =
    ap (λ n. over n most) (in_round g side slots most teams opponents row is_slot)
each_or_all g side slots most teams opponents row column false is_of =
    ap (λ n. over n most) (of_all g side slots most teams opponents)
