-- A team's way through its stops, from home to home.
use Rattle.std.proofs.Common.{◌≡◌, ◌≢◌, ℕ, zero, suc, ◌+◌, ◌<◌, ◌≤◌, ◌==◌, not, Bool, false, if◌then◌else◌}
use Rattle.std.proofs.Common.{refl, sym, ◌∙◌, ap, subst, inl, inr, arith}
use Rattle.std.proofs.Math.Numerals.{suc-eq-add-one}
use Rattle.std.proofs.lemmas.Bool.{cases_eq, cond-true, cond-false, eq-eqb, ne_eqb}
use Rattle.sets.specs.Sums.{sum_below, count_where}
use Rattle.sets.proofs.ForCallers.{sum_below_none, sum_below_more, sum_below_only, sum_where_split}

-- an induction by steps of one
pub by_steps : (P : ℕ → Type 0) → P 0 → ((r : ℕ) → P r → P (r + 1)) → (r : ℕ) → P r
by_steps P none more zero = none
by_steps P none more (suc r) = subst P (sym (suc-eq-add-one r)) (more r (by_steps P none more r))

-- the away games in a row that end with a stop, 0 at home
unfoldable pub row : ℕ → (ℕ → ℕ) → ℕ → ℕ
row home s zero = 0
row home s (suc r) = if s (suc r) == home then 0 else row home s r + 1

-- the games of the trips that ended before it
unfoldable pub done : ℕ → (ℕ → ℕ) → ℕ → ℕ
done home s zero = 0
done home s (suc r) = if s (suc r) == home then done home s r + row home s r else done home s r

-- whether the stop after a leg is away
abbrev pub leads_away : ℕ → (ℕ → ℕ) → ℕ → Bool
leads_away home s r = not (s (r + 1) == home)

-- the away games up to a stop
abbrev pub games : ℕ → (ℕ → ℕ) → ℕ → ℕ
games home s r = count_where r (leads_away home s)

pub row_none : (home : ℕ) (s : ℕ → ℕ) → row home s 0 ≡ 0
unfolding row
row_none home s = refl

row_more : (home : ℕ) (s : ℕ → ℕ) (r : ℕ) → row home s (r + 1) ≡ (if s (r + 1) == home then 0 else row home s r + 1)
unfolding row
row_more home s r = rw (← suc-eq-add-one r) refl

pub done_none : (home : ℕ) (s : ℕ → ℕ) → done home s 0 ≡ 0
unfolding done
done_none home s = refl

done_more : (home : ℕ) (s : ℕ → ℕ) (r : ℕ)
    → done home s (r + 1) ≡ (if s (r + 1) == home then done home s r + row home s r else done home s r)
unfolding done
done_more home s r = rw (← suc-eq-add-one r) refl

-- a step to home, and one to an opponent

pub row_home : (home : ℕ) (s : ℕ → ℕ) (r : ℕ) → s (r + 1) ≡ home → row home s (r + 1) ≡ 0
row_home home s r at_home = row_more home s r ∙ cond-true (s (r + 1) == home) 0 (row home s r + 1) (eq-eqb (s (r + 1)) home at_home)

pub row_away : (home : ℕ) (s : ℕ → ℕ) (r : ℕ) → s (r + 1) ≢ home → row home s (r + 1) ≡ row home s r + 1
row_away home s r away = row_more home s r ∙ cond-false (s (r + 1) == home) 0 (row home s r + 1) (ne_eqb (s (r + 1)) home away)

pub done_home : (home : ℕ) (s : ℕ → ℕ) (r : ℕ) → s (r + 1) ≡ home → done home s (r + 1) ≡ done home s r + row home s r
done_home home s r at_home =
    done_more home s r ∙ cond-true (s (r + 1) == home) (done home s r + row home s r) (done home s r) (eq-eqb (s (r + 1)) home at_home)

pub done_away : (home : ℕ) (s : ℕ → ℕ) (r : ℕ) → s (r + 1) ≢ home → done home s (r + 1) ≡ done home s r
done_away home s r away =
    done_more home s r ∙ cond-false (s (r + 1) == home) (done home s r + row home s r) (done home s r) (ne_eqb (s (r + 1)) home away)

games_home : (home : ℕ) (s : ℕ → ℕ) (r : ℕ) → s (r + 1) ≡ home → games home s (r + 1) ≡ games home s r
games_home home s r at_home = sum_below_more r _ ∙ rw (eq-eqb (s (r + 1)) home at_home) (omega arith)

games_away : (home : ℕ) (s : ℕ → ℕ) (r : ℕ) → s (r + 1) ≢ home → games home s (r + 1) ≡ games home s r + 1
games_away home s r away = sum_below_more r _ ∙ rw (ne_eqb (s (r + 1)) home away) refl

-- those of the trips before and of this one are all games
pub done_and_row : (home : ℕ) (s : ℕ → ℕ) (r : ℕ) → done home s r + row home s r ≡ games home s r
done_and_row home s =
    by_steps (λ r. done home s r + row home s r ≡ games home s r)
    (omega (arith, done_none home s, row_none home s, sum_below_none (λ k. if leads_away home s k then 1 else 0)))
    (λ r before. elim (cases_eq (s (r + 1)) home) [
      | inl at_home ↦ omega (arith, row_home home s r at_home, done_home home s r at_home, games_home home s r at_home, before)
      | inr away ↦ omega (arith, row_away home s r away, done_away home s r away, games_away home s r away, before)
    ])

-- a stop away ends a row
pub row_some : (home : ℕ) (s : ℕ → ℕ) → s 0 ≡ home → (r : ℕ) → s r ≢ home → 1 ≤ row home s r
row_some home s first =
    by_steps (λ r. s r ≢ home → 1 ≤ row home s r)
    (λ away. absurd (away first))
    (λ r before away. omega (arith, row_away home s r away))

-- one at home doesn't
pub row_at_home : (home : ℕ) (s : ℕ → ℕ) (r : ℕ) → s r ≡ home → row home s r ≡ 0
row_at_home home s =
    by_steps (λ r. s r ≡ home → row home s r ≡ 0)
    (λ at_home. row_none home s)
    (λ r before at_home. row_home home s r at_home)

-- sums over more are no less
pub sum_below_longer : (m n : ℕ) (f : ℕ → ℕ) → m ≤ n → sum_below m f ≤ sum_below n f
unfolding sum_below
sum_below_longer m zero f le = let none : m ≡ 0 = omega arith in rw none (omega arith)
sum_below_longer m (suc n) f le = elim (cases_eq m (suc n)) [
  | inl same ↦ rw same (omega arith)
  | inr other ↦ omega (arith, sum_below_longer m n f (omega arith))
]

-- what passes a test is visited once each, where home doesn't
abbrev pub VisitsEach : ℕ → ℕ → ℕ → (ℕ → ℕ) → Type 0
VisitsEach n home rounds s =
    (test : ℕ → Bool) → test home ≡ false → count_where (rounds + 1) (λ r. test (s (r + 1))) ≡ count_where n test

-- what is known of the stops of a team without a run, of which there are two more than rounds
pub record IsWay (n home most rounds : ℕ) (s : ℕ → ℕ) : Type 0 where
  pub first : s 0 ≡ home
  pub last : s (rounds + 1) ≡ home
  pub home_in : home < n
  pub below : (r : ℕ) → s r < n
  pub once : (q r : ℕ) → s q ≡ s r → s q ≢ home → q ≡ r
  pub rows : (r : ℕ) → row home s r ≤ most
  pub visits : VisitsEach n home rounds s

-- as many ones
pub ones : (n : ℕ) → sum_below n (λ _. 1) ≡ n
unfolding sum_below
ones zero = refl
ones (suc n) = omega (arith, ones n)

pub all_but_one : (n home : ℕ) → home < n → count_where n (λ x. not (x == home)) + 1 ≡ n
all_but_one n home home_in =
    let one : count_where n (λ x. x == home) ≡ 1 =
    sum_below_only n home (λ x. if x == home then 1 else 0) home_in (λ x below other. cond-false (x == home) 1 0 (ne_eqb x home other)) ∙
    cond-true (home == home) 1 0 (eq-eqb home home refl) in
    omega (arith, one, sum_where_split n (λ x. x == home) (λ _. 1), ones n)

-- all games are one with each opponent
pub all_games : (n home rounds : ℕ) (s : ℕ → ℕ) → home < n → VisitsEach n home rounds s → games home s (rounds + 1) + 1 ≡ n
all_games n home rounds s home_in visits =
    omega (arith, visits (λ x. not (x == home)) (ap not (eq-eqb home home refl)), all_but_one n home home_in)

pub games_below : (n home rounds : ℕ) (s : ℕ → ℕ) → home < n → VisitsEach n home rounds s → (r : ℕ) → r ≤ rounds + 1
    → games home s r < n
games_below n home rounds s home_in visits r in_r =
    omega (
      arith,
      all_games n home rounds s home_in visits,
      sum_below_longer r (rounds + 1) (λ k. if leads_away home s k then 1 else 0) in_r,
    )
