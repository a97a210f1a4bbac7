-- Rows of home games, a number for each round: how one is flipped, and by how much two of them are apart.
use Rattle.std.proofs.Common.{◌≡◌, ◌≢◌, ℕ, zero, suc, ◌+◌, ◌<◌, ◌≤◌, ◌&&◌, ◌==◌, not, nat_lt, Bool, true, false, if◌then◌else◌}
use Rattle.std.proofs.Common.{List, length, get_or, refl, sym, ◌∙◌, ap, inl, inr, arith}
use Rattle.std.proofs.Math.ListN.{get_or-eq_default}
use Rattle.std.proofs.lemmas.Bool.{cases_eq, cases_lt, cond-true, cond-false, eq-eqb, ne_eqb, lt-ltb, le-ltb}
use Rattle.league.specs.Limits.{max_rounds}
use Rattle.league.specs.Sets.{has, IsBelow}
use Rattle.league.specs.within.Sets.{IsWithoutLowest}
use Rattle.league.specs.Sums.{count_where}
use Rattle.league.proofs.ForCallers.{count_where_le, count_where_same, has_beyond, has_empty, others_kept, lowest_gone}
use Rattle.league.proofs.ForCallers.{sum_below_add, sum_below_only, sum_below_same}
use Rattle.fixtures.specs.Games.{Games, round_count, is_home}
use Rattle.rules.specs.Deviations.{over, home_games, largest_below, gap, worst_gap}
use Rattle.rules.specs.within.HomeTables.{IsHomeRow, is_home_with}
use Rattle.rules.specs.within.Walked.{apart_in, from_on, mask_in, worst_apart, row_length}
use Rattle.rules.proofs.limits.Largest.{largest_below_same, largest_below_past}

-- how much the largest is over the most is the largest of what each is over it
over_largest : (n most : ℕ) (f : ℕ → ℕ) → over (largest_below n f) most ≡ largest_below n (λ k. over (f k) most)
unfolding largest_below
over_largest zero most f = omega arith
over_largest (suc n) most f = omega (arith, over_largest n most f)

-- the same row, of the same home rounds
pub same_home_row : (row : List ℕ) (home other : ℕ → Bool) → ((r : ℕ) → home r ≡ other r) → IsHomeRow home row → IsHomeRow other row
same_home_row row home other same is = record {
  len = is.len;
  counts = λ r in_row. is.counts r in_row ∙ count_where_same (r + 1) home other (λ k below. same k);
}

-- with one home game more
module _ (first : ℕ) (fewer more : ℕ → Bool) (away : fewer first ≡ false) (home : more first ≡ true)
    (others : (k : ℕ) → k ≢ first → more k ≡ fewer k) where
  one_more : (n : ℕ) → first < n → count_where n more ≡ count_where n fewer + 1
  one_more n below =
      omega (
        arith,
        sum_below_same n (λ k. if more k then 1 else 0) (λ k. (if fewer k then 1 else 0) + (if k == first then 1 else 0))
            (λ k k_below. at k),
        sum_below_add n (λ k. if fewer k then 1 else 0) (λ k. if k == first then 1 else 0),
        sum_below_only n first (λ k. if k == first then 1 else 0) below
            (λ k k_below apart. cond-false {A = ℕ} (k == first) 1 0 (ne_eqb k first apart)),
        cond-true {A = ℕ} (first == first) 1 0 (eq-eqb first first refl),
      )
    where
      at : (k : ℕ) → (if more k then 1 else 0) ≡ (if fewer k then 1 else 0) + (if k == first then 1 else 0)
      at k = elim (cases_eq k first) [
        | inl same ↦
            omega (
              arith,
              cond-true {A = ℕ} (more k) 1 0 (ap more same ∙ home),
              cond-false {A = ℕ} (fewer k) 1 0 (ap fewer same ∙ away),
              cond-true {A = ℕ} (k == first) 1 0 (eq-eqb k first same),
            )
        | inr apart ↦
            omega (
              arith,
              ap {B = ℕ} (λ b. if b then 1 else 0) (others k apart),
              cond-false {A = ℕ} (k == first) 1 0 (ne_eqb k first apart),
            )
      ]

  more_from_on : (r : ℕ) → count_where (r + 1) more ≡ count_where (r + 1) fewer + from_on first r
  more_from_on r = elim (cases_lt r first) [
    | inl before ↦
        omega (
          arith,
          count_where_same (r + 1) more fewer (λ k below. others k (omega (arith, before, below))),
          cond-true {A = ℕ} (nat_lt r first) 0 1 (lt-ltb r first before),
        )
    | inr from ↦
        omega (arith, one_more (r + 1) (omega (arith, from)), cond-false {A = ℕ} (nat_lt r first) 0 1 (le-ltb r first from))
  ]

  pub gained_row : (row new : List ℕ) → length new ≡ row_length →
      ((r : ℕ) → r < row_length → get_or new r 0 ≡ get_or row r 0 + from_on first r) → IsHomeRow fewer row → IsHomeRow more new
  gained_row row new len gained is = record {
    len = len;
    counts = λ r in_row. omega (arith, gained r in_row, is.counts r in_row, more_from_on r);
  }

  pub lost_row : (row new : List ℕ) → length new ≡ row_length →
      ((r : ℕ) → r < row_length → get_or new r 0 + from_on first r ≡ get_or row r 0) → IsHomeRow more row → IsHomeRow fewer new
  lost_row row new len lost is = record {
    len = len;
    counts = λ r in_row. omega (arith, lost r in_row, is.counts r in_row, more_from_on r);
  }

  -- what it can lose
  pub counted_from_on : (row : List ℕ) → IsHomeRow more row → (r : ℕ) → r < row_length → from_on first r ≤ get_or row r 0
  counted_from_on row is r in_row = omega (arith, is.counts r in_row, more_from_on r)

-- one more fits in each place of a row
pub row_small : (row : List ℕ) (home : ℕ → Bool) → IsHomeRow home row → (r : ℕ) → get_or row r 0 < 255
row_small row home is r = elim (cases_lt r row_length) [
  | inl in_row ↦ omega (arith, is.counts r in_row, count_where_le (r + 1) home, in_row)
  | inr past ↦
      let beyond : length row ≤ r = omega (arith, is.len, past) in
      omega (arith, get_or-eq_default row 0 beyond)
]

-- a loop over the rounds that changed has flipped those that aren't left
pub record HasFlipped (row : List ℕ) (homes left : ℕ) : Type 0 where
  pub below : IsBelow max_rounds left
  pub is : IsHomeRow (is_home_with homes left) row

pub flipped_none : (row : List ℕ) (homes changed left : ℕ) → IsBelow max_rounds changed → left ≡ changed →
    IsHomeRow (is_home_with homes changed) row → HasFlipped row homes left
flipped_none row homes changed left below whole is = rw whole (record { below = below; is = is })

pub flipped_all : (row : List ℕ) (homes left : ℕ) → left ≡ 0 → HasFlipped row homes left →
    IsHomeRow (has homes) row
flipped_all row homes left none so_far =
    same_home_row row (is_home_with homes left) (has homes)
    (λ r. cond-false {A = Bool} (has left r) (not (has homes r)) (has homes r) (ap (λ s. has s r) none ∙ has_empty r)) so_far.is

module _ (row : List ℕ) (homes left lowest rest : ℕ) (so_far : HasFlipped row homes left)
    (taken : IsWithoutLowest left lowest rest) where
  as_before : is_home_with homes left lowest ≡ not (has homes lowest)
  as_before = cond-true {A = Bool} (has left lowest) (not (has homes lowest)) (has homes lowest) taken.in_set

  as_after : is_home_with homes rest lowest ≡ has homes lowest
  as_after = cond-false {A = Bool} (has rest lowest) (not (has homes lowest)) (has homes lowest) (lowest_gone left lowest rest taken)

  elsewhere : (k : ℕ) → k ≢ lowest → is_home_with homes rest k ≡ is_home_with homes left k
  elsewhere k apart =
      ap (λ (b : Bool). if b then not (has homes k) else has homes k) (others_kept left lowest rest k taken apart)

  below_still : IsBelow max_rounds rest
  below_still = omega (arith, so_far.below, taken.fewer)

  pub flipped_home : (new : List ℕ) → has homes lowest ≡ true → length new ≡ row_length →
      ((r : ℕ) → r < row_length → get_or new r 0 ≡ get_or row r 0 + from_on lowest r) → HasFlipped new homes rest
  flipped_home new home len gained = record {
    below = below_still;
    is = gained_row lowest (is_home_with homes left) (is_home_with homes rest) (as_before ∙ ap not home) (as_after ∙ home)
        elsewhere row new len gained so_far.is;
  }

  pub flipped_away : (new : List ℕ) → has homes lowest ≡ false → length new ≡ row_length →
      ((r : ℕ) → r < row_length → get_or new r 0 + from_on lowest r ≡ get_or row r 0) → HasFlipped new homes rest
  flipped_away new away len lost = record {
    below = below_still;
    is = lost_row lowest (is_home_with homes rest) (is_home_with homes left) (as_after ∙ away) (as_before ∙ ap not away)
        (λ k apart. sym (elsewhere k apart)) row new len lost so_far.is;
  }

  pub flipped_some : has homes lowest ≡ false → (r : ℕ) → r < row_length → from_on lowest r ≤ get_or row r 0
  flipped_some away =
      counted_from_on lowest (is_home_with homes rest) (is_home_with homes left) (as_after ∙ away) (as_before ∙ ap not away)
      (λ k apart. sym (elsewhere k apart)) row so_far.is

-- the rounds in which a team was at home, by those in which it flips
pub home_before : (before homes changed : ℕ) → ((r : ℕ) → has changed r ≡ (if has homes r then not (has before r) else has before r)) →
    (r : ℕ) → has before r ≡ is_home_with homes changed r
home_before before homes changed members r =
    twice (has before r) (has homes r) ∙
    ap (λ (b : Bool). if b then not (has homes r) else has homes r) (sym (members r))
  where
    twice : (a b : Bool) → a ≡ (if (if b then not a else a) then not b else b)
    twice true true = refl
    twice true false = refl
    twice false true = refl
    twice false false = refl

-- the row of a schedule
pub row_of_schedule : (g : Games) (t home : ℕ) (row : List ℕ) → round_count g.teams ≤ max_rounds →
    ((r : ℕ) → has home r ≡ (nat_lt r (round_count g.teams) && is_home g t r)) → IsHomeRow (has home) row → (r : ℕ) →
    r < round_count g.teams → get_or row r 0 ≡ home_games g t r
unfolding home_games
row_of_schedule g t home row season members is r in_season =
    is.counts r (omega (arith, in_season, season)) ∙
    count_where_same (r + 1) (has home) (is_home g t)
    (λ k until.
    members k ∙ ap (λ b. b && is_home g t k) (lt-ltb k (round_count g.teams) (omega (arith, in_season, until))))

module _ (g : Games) (most i j slots : ℕ) (mask first second : List ℕ) (season : round_count g.teams ≤ max_rounds)
    (of_slots : IsBelow (round_count g.teams) slots)
    (first_is : (r : ℕ) → r < round_count g.teams → get_or first r 0 ≡ home_games g i r)
    (second_is : (r : ℕ) → r < round_count g.teams → get_or second r 0 ≡ home_games g j r)
    (masks : (r : ℕ) → get_or mask r 0 ≡ mask_in slots r) where
  small : (t r : ℕ) → r < round_count g.teams → home_games g t r ≤ max_rounds
  unfolding home_games
  small t r below = omega (arith, count_where_le (r + 1) (is_home g t), below, season)

  in_season : (r : ℕ) → r < round_count g.teams →
      (if has slots r then gap g most i j r else 0) ≡ over (apart_in mask first second r) most
  unfolding gap
  in_season r below = at (has slots r) (masks r)
    where
      at : (b : Bool) → get_or mask r 0 ≡ (if b then 255 else 0) → (if b then gap g most i j r else 0) ≡ over (apart_in mask first second r) most
      at true all = omega (arith, all, first_is r below, second_is r below, small i r below, small j r below)
      at false none = omega (arith, none)

  past_season : (r : ℕ) → round_count g.teams ≤ r → apart_in mask first second r ≡ 0
  past_season r past =
      omega (arith, masks r, cond-false {A = ℕ} (has slots r) 255 0 (has_beyond (round_count g.teams) slots r of_slots past))

  -- two rows tell the worst gap of their teams
  pub worst_gap_of_rows : over (worst_apart mask first second) most ≡ worst_gap g (has slots) most i j
  unfolding worst_gap worst_apart
  worst_gap_of_rows =
      ap (λ n. over n most)
      (largest_below_past (round_count g.teams) row_length (apart_in mask first second) (omega (arith, season)) (λ r past below. past_season r past)) ∙
      over_largest (round_count g.teams) most (apart_in mask first second) ∙
      sym (largest_below_same (round_count g.teams) (λ r. if has slots r then gap g most i j r else 0)
      (λ r. over (apart_in mask first second r) most) (λ r below. in_season r below))
