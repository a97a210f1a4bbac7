-- Games counted in all slots at once, team by team.
use Rattle.std.proofs.Common.{◌≡◌, ℕ, ◌+◌, ◌-◌, ◌<◌, ◌≤◌, ◌&&◌, nat_lt, Bool, true, false, if◌then◌else◌, refl, sym, ◌∙◌, ap, subst, arith}
use Rattle.std.proofs.lemmas.Bool.{lt-ltb}
use Rattle.league.specs.Limits.{max_rounds, max_teams}
use Rattle.league.specs.Sets.{has, IsBelow}
use Rattle.league.specs.within.Sets.{IsWithoutLowest}
use Rattle.league.specs.Sums.{sum_below, sum_where}
use Rattle.league.specs.declared.rule.Side.{Side}
use Rattle.league.proofs.ForCallers.{IsSumWithout, sum_without_none, sum_without_more, sum_without_all, has_beyond}
use Rattle.league.proofs.ForCallers.{sum_below_zero, sum_below_same, sum_below_past, count_where_same, count_where_le}
use Rattle.fixtures.specs.Games.{Games, round_count}
use Rattle.rules.specs.Deviations.{over, is_counted, games_in_round}
use Rattle.rules.specs.within.Walked.{one_in, number_at}
use Rattle.rules.specs.declared.round_numbers.RoundNumbers.{RoundNumbers}
use Rattle.rules.proofs.walks.Sets.{count_of_both}
use Rattle.rules.proofs.counted.RoundNumbers.{one_le}

-- whether a round is a slot in which a team's game counts
abbrev pub is_counted_in : Games → Side → ℕ → ℕ → ℕ → ℕ → Bool
is_counted_in g side opponents slots r t = nat_lt r (round_count g.teams) && (has slots r && is_counted g side (has opponents) t r)

-- where the number of a round begins
abbrev pub begin : ℕ → ℕ → ℕ → ℕ
begin slots most r = if has slots r then 64 - most else 0

-- a loop over teams has counted in each round those that aren't left
pub record HasCounted (g : Games) (side : Side) (opponents slots most set left : ℕ) (numbers : RoundNumbers) : Type 0 where
  pub least : (r : ℕ) → begin slots most r ≤ number_at numbers r
  pub counted : (r : ℕ) →
      IsSumWithout g.teams set left (number_at numbers r - begin slots most r) 1
      (λ t. if is_counted_in g side opponents slots r t then 1 else 0)

module _ (g : Games) (side : Side) (opponents slots most set : ℕ) where
  term : ℕ → ℕ → ℕ
  term r t = if is_counted_in g side opponents slots r t then 1 else 0

  pub counted_none : (left : ℕ) (numbers : RoundNumbers) → IsBelow g.teams left → left ≡ set →
      ((r : ℕ) → number_at numbers r ≡ begin slots most r) → HasCounted g side opponents slots most set left numbers
  unfolding term
  counted_none left numbers below whole begins = record {
    least = λ r. omega (arith, begins r);
    counted = λ r.
        let none : 0 ≡ number_at numbers r - begin slots most r = omega (arith, begins r) in
        subst (λ total. IsSumWithout g.teams set left total 1 (term r)) none
        (sum_without_none g.teams set left 1 (term r) below whole);
  }

  pub counted_more : (left lowest rest row : ℕ) (numbers new : RoundNumbers) → HasCounted g side opponents slots most set left numbers →
      IsWithoutLowest left lowest rest → ((r : ℕ) → has row r ≡ is_counted_in g side opponents slots r lowest) →
      ((r : ℕ) → number_at new r ≡ number_at numbers r + one_in row r) → HasCounted g side opponents slots most set rest new
  unfolding term
  counted_more left lowest rest row numbers new so_far taken is added = record {
    least = λ r. omega (arith, so_far.least r, added r);
    counted = λ r.
        let more : number_at numbers r - begin slots most r + one_in row r ≡ number_at new r - begin slots most r =
        omega (arith, so_far.least r, added r) in
        subst (λ total. IsSumWithout g.teams set rest total 1 (term r)) more
        (sum_without_more g.teams set left lowest rest (number_at numbers r - begin slots most r) (one_in row r) 1 (term r)
        (so_far.counted r)
        taken (ap {B = ℕ} (λ b. if b then 1 else 0) (is r)) (one_le row r));
  }

  begin_le : (r : ℕ) → begin slots most r ≤ 64
  begin_le r = at (has slots r)
    where
      at : (b : Bool) → (if b then 64 - most else 0) ≤ 64
      at true = omega arith
      at false = omega arith

  module _ (left : ℕ) (numbers : RoundNumbers) (so_far : HasCounted g side opponents slots most set left numbers) (season : g.teams ≤ max_teams)
    where
      count_le : (r : ℕ) → number_at numbers r ≤ begin slots most r + max_teams
      count_le r = omega (arith, (so_far.counted r).within, so_far.least r)

      -- one more fits
      pub counted_small : (r : ℕ) → number_at numbers r < 127
      counted_small r = omega (arith, count_le r, begin_le r)

      module _ (none_left : left ≡ 0) (most_le : most ≤ 64) (of_slots : IsBelow (round_count g.teams) slots) where
        in_slot : (r : ℕ) → r < round_count g.teams → has slots r ≡ true →
            number_at numbers r - begin slots most r ≡ games_in_round g side (has set) (has opponents) r
        unfolding games_in_round term
        in_slot r below here =
            sum_without_all g.teams set left (number_at numbers r - begin slots most r) 1 (has set) (term r) (so_far.counted r) none_left
            (λ t in_t. refl) ∙
            count_of_both g.teams (has set) (is_counted_in g side opponents slots r) ∙
            count_where_same g.teams (λ t. has set t && is_counted_in g side opponents slots r t)
            (λ t. has set t && is_counted g side (has opponents) t r)
            (λ t in_t. rw (lt-ltb r (round_count g.teams) below, here) refl)

        out_of_slots : (r : ℕ) → has slots r ≡ false → over (number_at numbers r) 64 ≡ 0
        out_of_slots r out = omega (arith, count_le r, ap {B = ℕ} (λ b. if b then 64 - most else 0) out)

        by_round : (r : ℕ) → r < round_count g.teams → over (number_at numbers r) 64 ≡
            (if has slots r then over (games_in_round g side (has set) (has opponents) r) most else 0)
        by_round r below = at (has slots r) refl
          where
            at : (b : Bool) → has slots r ≡ b → over (number_at numbers r) 64 ≡
                (if b then over (games_in_round g side (has set) (has opponents) r) most else 0)
            at true here =
                omega (arith, in_slot r below here, so_far.least r, ap {B = ℕ} (λ b. if b then 64 - most else 0) here, most_le)
            at false out = out_of_slots r out

        pub over_of_numbers : sum_below max_rounds (λ r. over (number_at numbers r) 64) ≡
            sum_where (round_count g.teams) (has slots) (λ r. over (games_in_round g side (has set) (has opponents) r) most)
        over_of_numbers =
            sum_below_past (round_count g.teams) max_rounds (λ r. over (number_at numbers r) 64) (omega (arith, season))
            (λ r past below. out_of_slots r (has_beyond (round_count g.teams) slots r of_slots past)) ∙
            sum_below_same (round_count g.teams) (λ r. over (number_at numbers r) 64)
            (λ r. if has slots r then over (games_in_round g side (has set) (has opponents) r) most else 0) by_round

-- no more games count in a round than there are teams
pub none_over : (g : Games) (side : Side) (teams opponents slots : ℕ → Bool) (most : ℕ) → g.teams ≤ most →
    0 ≡ sum_where (round_count g.teams) slots (λ r. over (games_in_round g side teams opponents r) most)
unfolding games_in_round
none_over g side teams opponents slots most enough =
    sym (sum_below_zero (round_count g.teams) (λ r. if slots r then over (games_in_round g side teams opponents r) most else 0)
    (λ r below. at (slots r) r))
  where
    at : (b : Bool) (r : ℕ) → (if b then over (games_in_round g side teams opponents r) most else 0) ≡ 0
    at true r = omega (arith, count_where_le g.teams (λ t. teams t && is_counted g side opponents t r), enough)
    at false r = refl
