-- Games against any team are games against the set of all teams.
use Rattle.std.proofs.Common.{◌≡◌, ℕ, ◌<◌, nat_lt, Bool, true, ◌&&◌, inl, inr, refl, sym, ◌∙◌, ap}
use Rattle.std.proofs.Math.Bool.{and-true}
use Rattle.std.proofs.lemmas.Bool.{cases_lt, lt-ltb, le-ltb}
use Rattle.league.specs.Sets.{has}
use Rattle.league.specs.declared.rule.Side.{Side}
use Rattle.league.specs.declared.rule.RuleBody.TheVariants.{Ca1, Ca2}
use Rattle.league.proofs.ForCallers.{count_where_same, sum_where_same}
use Rattle.fixtures.specs.Games.{Games, round_count, cell, is_home, IsDoubleRoundRobin}
use Rattle.fixtures.proofs.ForCallers.{is_cell}
use Rattle.rules.specs.Deviations.{over, is_on_side, is_counted, games_of_team, deviation}
use Rattle.rules.proofs.counted.CountedRounds.{counted_from}

module _ (g : Games) (rr : IsDoubleRoundRobin g) (side : Side) (all : ℕ) (members : (t : ℕ) → has all t ≡ nat_lt t g.teams) where
  is_counted-all : (t r : ℕ) → t < g.teams → r < round_count g.teams → is_counted g side (has all) t r ≡ is_counted g side (λ _. true) t r
  unfolding is_counted
  is_counted-all t r in_t in_r =
      ap (λ (b : Bool). is_on_side side (cell g t r).home && b)
      (members (cell g t r).opponent ∙ lt-ltb _ _ (is_cell g rr t r in_t in_r).pair.away_in)

  pub games_of_team-all : (slots : ℕ → Bool) (t : ℕ) → t < g.teams →
      games_of_team g side (has all) slots t ≡ games_of_team g side (λ _. true) slots t
  unfolding games_of_team
  games_of_team-all slots t in_t =
      count_where_same (round_count g.teams) _ _ (λ r in_r. ap (λ (b : Bool). slots r && b) (is_counted-all t r in_t in_r))

  pub Ca2-all : (teams slots most : ℕ) → deviation g (Ca2 teams side all slots most) ≡ deviation g (Ca1 teams side slots most)
  unfolding deviation
  Ca2-all teams slots most =
      sum_where_same g.teams (has teams) (has teams) _ _ (λ t in_t. refl)
      (λ t in_t is. ap (λ (count : ℕ). over count most) (games_of_team-all (has slots) t in_t))

  -- a game on the side in a slot, against any opponent
  pub counted_from-all : (t r : ℕ) (slot : Bool) → t < g.teams →
      ((nat_lt r (round_count g.teams) && is_on_side side (is_home g t r)) && slot) ≡
      (nat_lt r (round_count g.teams) && (slot && is_counted g side (has all) t r))
  counted_from-all t r slot in_t = elim (cases_lt r (round_count g.teams)) [
    | inl in_r ↦
        sym (and-true ((nat_lt r (round_count g.teams) && is_on_side side (is_home g t r)) && slot)) ∙
        counted_from g side (λ _. true) t r slot ∙
        ap (λ (b : Bool). nat_lt r (round_count g.teams) && (slot && b)) (sym (is_counted-all t r in_t in_r))
    | inr past ↦ rw (le-ltb r (round_count g.teams) past) refl
  ]
