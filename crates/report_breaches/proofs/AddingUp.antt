-- What the breaches of a rule are by, added up, is its deviation.
use Rattle.std.proofs.Common.{◌≡◌, ℕ, zero, suc, ◌+◌, ◌-◌, Bool, true, false, inl, inr, refl, sym, ◌∙◌, List, arith}
use Rattle.std.specs.Prelude.{if◌then◌else◌, sum_by, ◌&&◌}
use Rattle.std.proofs.Math.Nat.{zero-add}
use Rattle.std.proofs.lemmas.Bool.{cases_eq, eq-eqb, ne_eqb}
use Rattle.std.proofs.lemmas.List.Sums.{sum_by-append}
use Rattle.league.specs.Sets.{has}
use Rattle.league.specs.Sums.{sum_below, sum_where}
use Rattle.league.proofs.ForCallers.{sum_below_zero}
use Rattle.league.specs.declared.rule.RuleBody.{RuleBody}
use Rattle.league.specs.declared.rule.RuleBody.TheVariants.{Ca1, Ca2, Ca3, Ca4, Ga1, Br1, Br2, Se1, Fa2}
use Rattle.fixtures.specs.Games.{Games, round_count}
use Rattle.rules.specs.Deviations.{over, games_in_window, listed_games_in}
use Rattle.rules.specs.Deviations.{over_in_windows, short_pairs, worst_gaps, deviation}
use Rattle.report_breaches.specs.declared.breach.Breach.{Breach}
use Rattle.report_breaches.specs.declared.breach.Place.{Place}
use Rattle.report_breaches.specs.declared.breach.Place.TheVariants.{GamesOf, BreaksOf, Round, Together, GamesOver, GamesUnder, Pair}
use Rattle.report_breaches.specs.Breaches.{breach_at, breaches_below, breaches_where, breaches_of, window_at, worst_at, AddsUp}

-- what breaches are by, added up
abbrev all_by : List Breach → ℕ
all_by breaches = sum_by (λ (breach : Breach). breach.by) breaches

by_at : (place : Place) (by : ℕ) → all_by (breach_at place by) ≡ by
by_at place by = elim (cases_eq by 0) [
  | inl none ↦ rw (eq-eqb by 0 none) (sym none)
  | inr some ↦ rw (ne_eqb by 0 some) (zero-add by)
]

by_below : (n : ℕ) (breaches : ℕ → List Breach) (term : ℕ → ℕ) → ((k : ℕ) → all_by (breaches k) ≡ term k) →
    all_by (breaches_below n breaches) ≡ sum_below n term
unfolding sum_below
by_below zero breaches term each = refl
by_below (suc n) breaches term each =
    sum_by-append (λ (breach : Breach). breach.by) (breaches_below n breaches) (breaches n) ∙
    omega (arith, by_below n breaches term each, each n)

by_where : (n : ℕ) (test : ℕ → Bool) (place : ℕ → Place) (term : ℕ → ℕ) →
    all_by (breaches_where n test place term) ≡ sum_where n test term
by_where n test place term =
    by_below n (λ k. breach_at (place k) (if test k then term k else 0)) (λ k. if test k then term k else 0)
    (λ k. by_at (place k) (if test k then term k else 0))

-- a test of all at once
at_once : (n : ℕ) (passes : Bool) (term : ℕ → ℕ) → sum_below n (λ k. if passes then term k else 0) ≡ (if passes then sum_below n term else 0)
at_once n true term = refl
at_once n false term = sum_below_zero n (λ _. 0) (λ k below. refl)

pub adds_up : (g : Games) (body : RuleBody) → AddsUp g body
unfolding breaches_of deviation over_in_windows short_pairs worst_gaps
adds_up g (Ca1 teams side slots most) = by_where g.teams (has teams) GamesOf _
adds_up g (Ca2 teams1 side teams2 slots most) = by_where g.teams (has teams1) GamesOf _
adds_up g (Ca3 teams1 side teams2 window most) =
    by_below g.teams _ _
    (λ t. by_where (round_count g.teams + 1 - window) (λ _. has teams1 t) (window_at window t)
    (λ first. over (games_in_window g side (has teams2) window t first) most) ∙
    at_once (round_count g.teams + 1 - window) (has teams1 t)
    (λ first. over (games_in_window g side (has teams2) window t first) most))
adds_up g (Ca4 teams1 side teams2 slots false most) = by_at Together _
adds_up g (Ca4 teams1 side teams2 slots true most) = by_where (round_count g.teams) (has slots) Round _
adds_up g (Ga1 games slots least most) =
    sum_by-append (λ (breach : Breach). breach.by) (breach_at GamesOver (over (listed_games_in g (has slots) games) most)) _ ∙
    omega (
      arith,
      by_at GamesOver (over (listed_games_in g (has slots) games) most),
      by_at GamesUnder (over least (listed_games_in g (has slots) games)),
    )
adds_up g (Br1 teams side slots most) = by_where g.teams (has teams) BreaksOf _
adds_up g (Br2 teams slots most) = by_at Together _
adds_up g (Se1 teams least) =
    by_below g.teams _ _ (λ high. by_where high (λ low. has teams low && has teams high) (λ low. Pair low high) _)
adds_up g (Fa2 teams slots most) =
    by_below g.teams _ _
    (λ high. by_where high (λ low. has teams low && has teams high) (worst_at g (has slots) most high) _)
