-- What the games of a team give, summed up by opponents, is what they give by rounds.
use Rattle.std.proofs.Common.{◌≡◌, ◌≢◌, ℕ, ◌+◌, ◌<◌, Bool, true, false, inl, inr, refl, sym, ◌∙◌, ap, ap₂, arith}
use Rattle.std.specs.Prelude.{◌==◌, if◌then◌else◌}
use Rattle.std.proofs.lemmas.Bool.{cases_eq, cond-true, cond-false, eq-eqb, ne_eqb, false≢true, true≢false}
use Rattle.league.specs.Sums.{sum_below}
use Rattle.league.proofs.ForCallers.{sum_below_same, sum_below_zero, sum_below_add, sum_below_swap, sum_below_only}
use Rattle.fixtures.specs.declared.game.Cell.{Cell}
use Rattle.fixtures.specs.Games.{Games, round_of, round_count, cell, cell_round, IsPair, IsCell, IsDoubleRoundRobin}
use Rattle.fixtures.proofs.ForCallers.{is_cell, pair_swapped}

-- the cell with this opponent
abbrev pub side : Bool → ℕ → Cell
side home x = record { opponent = x; home = home }

-- what a game with an opponent gives in its round
abbrev pub by_opponent : Games → (Cell → ℕ → ℕ) → ℕ → Bool → ℕ → ℕ
by_opponent g of t home x = if t == x then 0 else of (side home x) (cell_round (round_of g) t (side home x))

module _ (g : Games) (rr : IsDoubleRoundRobin g) (of : Cell → ℕ → ℕ) (t : ℕ) (in_t : t < g.teams) where
  abbrev round_with : Bool → ℕ → ℕ
  round_with home x = cell_round (round_of g) t (side home x)

  abbrev term : Bool → ℕ → ℕ → ℕ
  term home x r = if t == x then 0 else if round_with home x == r then of (side home x) r else 0

  pair_with : (x : ℕ) → x < g.teams → t ≢ x → IsPair g.teams t x
  pair_with x in_x other = record { home_in = in_t; away_in = in_x; distinct = other }

  in_season : (home : Bool) (x : ℕ) → x < g.teams → t ≢ x → round_with home x < round_count g.teams
  in_season true x in_x other = rr.in_range t x (pair_with x in_x other)
  in_season false x in_x other = rr.in_range x t (pair_swapped g.teams t x (pair_with x in_x other))

  term_other : (home : Bool) (x r : ℕ) → t ≢ x → term home x r ≡ (if round_with home x == r then of (side home x) r else 0)
  term_other home x r other = cond-false (t == x) _ _ (ne_eqb t x other)

  by_terms : (home : Bool) (x : ℕ) → x < g.teams → by_opponent g of t home x ≡ sum_below (round_count g.teams) (term home x)
  by_terms home x in_x = elim (cases_eq t x) [
    | inl own ↦
        cond-true (t == x) _ _ (eq-eqb t x own) ∙
        sym (sum_below_zero (round_count g.teams) (term home x) (λ r in_r. cond-true (t == x) _ _ (eq-eqb t x own)))
    | inr other ↦
        cond-false (t == x) _ _ (ne_eqb t x other) ∙
        sym (sum_below_only (round_count g.teams) (round_with home x) (term home x) (in_season home x in_x other)
        (λ r in_r elsewhere. term_other home x r other ∙
        cond-false (round_with home x == r) _ _ (ne_eqb (round_with home x) r (λ e. elsewhere (sym e)))) ∙
        term_other home x (round_with home x) other ∙
        cond-true (round_with home x == round_with home x) _ _ (eq-eqb (round_with home x) (round_with home x) refl))
  ]

  module _ (r o : ℕ) (at_home : Bool) (is : IsCell g t r (side at_home o)) where
    -- no other game is in the round
    term_none : (home : Bool) (x : ℕ) → x < g.teams → side home x ≢ side at_home o → term home x r ≡ 0
    term_none home x in_x differs = elim (cases_eq t x) [
      | inl own ↦ cond-true (t == x) _ _ (eq-eqb t x own)
      | inr other ↦
          term_other home x r other ∙
          cond-false (round_with home x == r) _ _ (ne_eqb (round_with home x) r (λ e. differs (rr.once t r (side home x) (side at_home o)
          (record { pair = pair_with x in_x other; in_round = e }) is)))
    ]

    of_side : sum_below g.teams (λ x. term at_home x r) ≡ of (side at_home o) r
    of_side =
        sum_below_only g.teams o (λ x. term at_home x r) is.pair.away_in
        (λ x in_x other. term_none at_home x in_x (λ e. other (ap (λ (c : Cell). c.opponent) e))) ∙
        term_other at_home o r is.pair.distinct ∙
        cond-true (round_with at_home o == r) _ _ (eq-eqb (round_with at_home o) r is.in_round)

    of_other_side : (home : Bool) → home ≢ at_home → sum_below g.teams (λ x. term home x r) ≡ 0
    of_other_side home differs =
        sum_below_zero g.teams (λ x. term home x r)
        (λ x in_x. term_none home x in_x (λ e. differs (ap (λ (c : Cell). c.home) e)))

  of_round : (r o : ℕ) (at_home : Bool) → IsCell g t r (side at_home o) →
      sum_below g.teams (λ x. term true x r) + sum_below g.teams (λ x. term false x r) ≡ of (side at_home o) r
  of_round r o true is = omega (arith, of_side r o true is, of_other_side r o true is false false≢true)
  of_round r o false is = omega (arith, of_side r o false is, of_other_side r o false is true true≢false)

  swapped : (home : Bool) → sum_below g.teams (by_opponent g of t home) ≡
      sum_below (round_count g.teams) (λ r. sum_below g.teams (λ x. term home x r))
  swapped home =
      sum_below_same g.teams (by_opponent g of t home) (λ x. sum_below (round_count g.teams) (term home x)) (by_terms home) ∙
      sum_below_swap g.teams (round_count g.teams) (term home)

  pub by_rounds : sum_below g.teams (by_opponent g of t true) + sum_below g.teams (by_opponent g of t false) ≡
      sum_below (round_count g.teams) (λ r. of (cell g t r) r)
  by_rounds =
      ap₂ (λ x y. x + y) (swapped true) (swapped false) ∙
      sym (sum_below_add (round_count g.teams) (λ r. sum_below g.teams (λ x. term true x r))
      (λ r. sum_below g.teams (λ x. term false x r))) ∙
      sum_below_same (round_count g.teams) _ (λ r. of (cell g t r) r)
      (λ r in_r. of_round r (cell g t r).opponent (cell g t r).home (is_cell g rr t r in_t in_r))
