-- How many games of a team count in a whole season: one at home and one away against each opponent but itself.
use Rattle.std.proofs.Common.{◌≡◌, ◌≢◌, ℕ, ◌+◌, ◌<◌, ◌&&◌, ◌||◌, ◌==◌, not, nat_lt, Bool, true, false, if◌then◌else◌, inl, inr, refl, sym}
use Rattle.std.proofs.Common.{◌∙◌, ap, arith}
use Rattle.std.proofs.lemmas.Bool.{cases_eq, eq-eqb, ne_eqb, lt-ltb}
use Rattle.league.specs.Sums.{sum_where, count_where}
use Rattle.league.specs.declared.rule.Side.{Side}
use Rattle.league.specs.declared.rule.Side.TheVariants.{Home, Away, Any}
use Rattle.league.proofs.ForCallers.{sum_below_same, sum_below_add, sum_below_only, sum_where_same, count_where_none}
use Rattle.fixtures.specs.Games.{Games, round_count, round_of, cell, is_home, IsPair, IsDoubleRoundRobin}
use Rattle.fixtures.proofs.ForCallers.{is_cell}
use Rattle.rules.specs.Deviations.{is_on_side, is_counted}
use Rattle.rules.specs.within.Walked.{season_games}
use Rattle.rules.proofs.counted.OpponentRounds.{meets_on, none_with_itself, met_home, met_away}
use Rattle.rules.proofs.walks.Sets.{sum_of_counts_swap}

module _ (g : Games) (rr : IsDoubleRoundRobin g) (t : ℕ) (in_t : t < g.teams) where
  -- a round in which a game counts is one of one opponent's
  by_opponent : (side : Side) (opponents : ℕ → Bool) (r : ℕ) → r < round_count g.teams →
      count_where g.teams (λ o. opponents o && meets_on g rr t in_t side o r) ≡ (if is_counted g side opponents t r then 1 else 0)
  unfolding is_counted is_home
  by_opponent side opponents r in_r =
      sum_below_only g.teams (cell g t r).opponent (λ o. if opponents o && meets_on g rr t in_t side o r then 1 else 0)
      (is_cell g rr t r in_t in_r).pair.away_in
      (λ o below other.
      let apart : (cell g t r).opponent ≢ o = λ same. other (sym same) in
      rw (ne_eqb (cell g t r).opponent o apart)
      (never (opponents o) (nat_lt r (round_count g.teams)) (is_on_side side (cell g t r).home))) ∙
      rw (eq-eqb (cell g t r).opponent (cell g t r).opponent refl, lt-ltb r (round_count g.teams) in_r)
      (always (opponents (cell g t r).opponent) (is_on_side side (cell g t r).home))
    where
      never : (a b c : Bool) → ◌≡◌ {A = ℕ} (if a && (b && (c && false)) then 1 else 0) 0
      never true true true = refl
      never true true false = refl
      never true false c = refl
      never false b c = refl

      always : (a b : Bool) → ◌≡◌ {A = ℕ} (if a && (true && (b && true)) then 1 else 0) (if b && a then 1 else 0)
      always true true = refl
      always true false = refl
      always false true = refl
      always false false = refl

  by_opponents : (side : Side) (opponents : ℕ → Bool) →
      count_where (round_count g.teams) (is_counted g side opponents t) ≡
      sum_where g.teams opponents (λ o. count_where (round_count g.teams) (meets_on g rr t in_t side o))
  by_opponents side opponents =
      sym (sum_of_counts_swap g.teams (round_count g.teams) opponents (λ r. true) (meets_on g rr t in_t side) ∙
      sum_below_same (round_count g.teams) _ _ (by_opponent side opponents))

  -- one game at home with each other team, and one away
  one_round : (test : ℕ → Bool) (round : ℕ) → round < round_count g.teams → ((r : ℕ) → (r == round || false) ≡ test r) →
      count_where (round_count g.teams) test ≡ 1
  one_round test round in_season is =
      sum_below_only (round_count g.teams) round (λ r. if test r then 1 else 0) in_season
      (λ r below other. ap {B = ℕ} (λ b. if b then 1 else 0) (sym (is r) ∙ ap (λ b. b || false) (ne_eqb r round other))) ∙
      ap {B = ℕ} (λ b. if b then 1 else 0) (sym (is round) ∙ ap (λ b. b || false) (eq-eqb round round refl))

  with_itself : (side : Side) (o : ℕ) → t ≡ o → count_where (round_count g.teams) (meets_on g rr t in_t side o) ≡ 0
  with_itself side o same = count_where_none (round_count g.teams) _ (λ r below. sym (none_with_itself g rr t in_t side o r same))

  others : (opponents : ℕ → Bool) → sum_where g.teams opponents (λ o. if o == t then 0 else 1) + (if opponents t then 1 else 0) ≡
      count_where g.teams opponents
  others opponents =
      omega (
        arith,
        sum_below_only g.teams t (λ o. if o == t && opponents o then 1 else 0) in_t
            (λ o below other. ap {B = ℕ} (λ b. if b && opponents o then 1 else 0) (ne_eqb o t other)),
        ap {B = ℕ} (λ b. if b && opponents t then 1 else 0) (eq-eqb t t refl),
        sum_below_add g.teams (λ o. if opponents o then (if o == t then 0 else 1) else 0) (λ o. if o == t && opponents o then 1 else 0),
        sum_below_same g.teams _ (λ o. if opponents o then 1 else 0) (λ o below. at (opponents o) (o == t)),
      )
    where
      at : (a b : Bool) → (if a then (if b then 0 else 1) else 0) + (if b && a then 1 else 0) ≡ (if a then 1 else 0)
      at true true = refl
      at true false = refl
      at false true = refl
      at false false = refl

  one_each : (side : Side) (opponents : ℕ → Bool) →
      ((o : ℕ) → o < g.teams → count_where (round_count g.teams) (meets_on g rr t in_t side o) ≡ (if o == t then 0 else 1)) →
      count_where (round_count g.teams) (is_counted g side opponents t) + (if opponents t then 1 else 0) ≡ count_where g.teams opponents
  one_each side opponents each =
      ap (λ n. n + (if opponents t then 1 else 0))
      (by_opponents side opponents ∙
      sum_where_same g.teams opponents opponents _ (λ o. if o == t then 0 else 1) (λ o below. refl) (λ o below passes. each o below)) ∙
      others opponents

  at_home : (opponents : ℕ → Bool) →
      count_where (round_count g.teams) (is_counted g Home opponents t) + (if opponents t then 1 else 0) ≡ count_where g.teams opponents
  at_home opponents = one_each Home opponents (λ o below. elim (cases_eq o t) [
    | inl same ↦ with_itself Home o (sym same) ∙ sym (ap {B = ℕ} (λ b. if b then 0 else 1) (eq-eqb o t same))
    | inr other ↦
        let pair : IsPair g.teams t o = record { home_in = in_t; away_in = below; distinct = λ same. other (sym same) } in
        one_round _ (round_of g t o) (rr.in_range t o pair) (met_home g rr t in_t o pair) ∙
        sym (ap {B = ℕ} (λ b. if b then 0 else 1) (ne_eqb o t other))
  ])

  away : (opponents : ℕ → Bool) →
      count_where (round_count g.teams) (is_counted g Away opponents t) + (if opponents t then 1 else 0) ≡ count_where g.teams opponents
  away opponents = one_each Away opponents (λ o below. elim (cases_eq o t) [
    | inl same ↦ with_itself Away o (sym same) ∙ sym (ap {B = ℕ} (λ b. if b then 0 else 1) (eq-eqb o t same))
    | inr other ↦
        let pair : IsPair g.teams t o = record { home_in = in_t; away_in = below; distinct = λ same. other (sym same) } in
        let back : IsPair g.teams o t = record { home_in = below; away_in = in_t; distinct = other } in
        one_round _ (round_of g o t) (rr.in_range o t back) (met_away g rr t in_t o pair) ∙
        sym (ap {B = ℕ} (λ b. if b then 0 else 1) (ne_eqb o t other))
  ])

  both : (opponents : ℕ → Bool) → count_where (round_count g.teams) (is_counted g Any opponents t) ≡
      count_where (round_count g.teams) (is_counted g Home opponents t) + count_where (round_count g.teams) (is_counted g Away opponents t)
  unfolding is_counted
  both opponents =
      sym (sym (sum_below_add (round_count g.teams) _ _) ∙
      sum_below_same (round_count g.teams) _ _ (λ r below. at (cell g t r).home (opponents (cell g t r).opponent)))
    where
      at : (a b : Bool) → ◌≡◌ {A = ℕ} ((if a && b then 1 else 0) + (if not a && b then 1 else 0)) (if true && b then 1 else 0)
      at true true = refl
      at true false = refl
      at false true = refl
      at false false = refl

  -- the games of a season, from how many opponents there are
  pub games_of_season : (side : Side) (opponents : ℕ → Bool) (total : ℕ) → total ≡ count_where g.teams opponents →
      season_games side total (opponents t) ≡ count_where (round_count g.teams) (is_counted g side opponents t)
  games_of_season Home opponents total is = omega (arith, at_home opponents, is)
  games_of_season Away opponents total is = omega (arith, away opponents, is)
  games_of_season Any opponents total is = omega (arith, both opponents, at_home opponents, away opponents, is)
