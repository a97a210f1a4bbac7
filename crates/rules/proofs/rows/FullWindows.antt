-- Windows of consecutive rounds that lack no round of a set, or at most one.
use Rattle.std.proofs.Common.{◌≡◌, ◌≢◌, ℕ, ◌+◌, ◌-◌, ◌<◌, ◌≤◌, ◌&&◌, ◌||◌, ◌==◌, not, nat_lt, Bool, true, false, if◌then◌else◌, inl, inr}
use Rattle.std.proofs.Common.{List, get_or, refl, sym, ◌∙◌, ap, arith}
use Rattle.std.proofs.lemmas.Bool.{cases_eq, cases_lt, eq-eqb, ne_eqb, lt-ltb, le-ltb, cond-true, cond-false}
use Rattle.std.proofs.Math.Bool.{and-true, and-false}
use Rattle.std.proofs.Math.Nat.{add-zero}
use Rattle.league.specs.Limits.{max_rounds}
use Rattle.league.specs.Sets.{has, IsBelow}
use Rattle.league.specs.Sums.{sum_where, count_where}
use Rattle.league.proofs.ForCallers.{sum_below_none, sum_below_more, sum_below_same, sum_below_zero, sum_below_add, sum_where_split}
use Rattle.league.proofs.ForCallers.{has_beyond}
use Rattle.rules.specs.Deviations.{over}
use Rattle.rules.specs.within.Walked.{lacks}
use Rattle.rules.specs.within.TeamWindows.{rows_lack, IsInRows}
use Rattle.rules.specs.declared.team_windows.InRows.{InRows}
use Rattle.rules.proofs.walks.Sets.{ones, sum_below_append}

-- no round yet

all_start : (b : Bool) (m : ℕ) → m ≡ 0 → (b && m == 0) ≡ b
all_start true m none = eq-eqb m 0 none
all_start false m none = refl

nearly_start : (b : Bool) (m : ℕ) → m ≡ 0 → (b && nat_lt m 2) ≡ b
nearly_start true m none = lt-ltb m 2 (omega (arith, none))
nearly_start false m none = refl

-- one round more

full_step : (start bit : Bool) (m more : ℕ) → more ≡ m + (if not bit then 1 else 0) → ((start && m == 0) && bit) ≡ (start && more == 0)
full_step false bit m more is = refl
full_step true true m more is = let same : more ≡ m = omega (arith, is) in rw same (and-true (m == 0))
full_step true false m more is =
    let some : more ≢ 0 = omega (arith, is) in
    rw (ne_eqb more 0 some) (and-false (m == 0))

nearly_step : (start bit : Bool) (m more : ℕ) → more ≡ m + (if not bit then 1 else 0) →
    (((start && nat_lt m 2) && bit) || (start && m == 0)) ≡ (start && nat_lt more 2)
nearly_step false bit m more is = refl
nearly_step true true m more is =
    let same : more ≡ m = omega (arith, is) in rw same (elim (cases_lt m 2) [
      | inl few ↦ rw (lt-ltb m 2 few) refl
      | inr many ↦
          let some : m ≢ 0 = omega arith in
          rw (le-ltb m 2 many, ne_eqb m 0 some) refl
    ])
nearly_step true false m more is = elim (cases_eq m 0) [
  | inl none ↦
      let few : more < 2 = omega (arith, is, none) in
      rw (none, lt-ltb more 2 few) refl
  | inr some ↦
      let many : 2 ≤ more = omega (arith, is) in
      rw (le-ltb more 2 many, ne_eqb m 0 some) (and_false (nat_lt m 2))
]
  where
    and_false : (b : Bool) → ((b && false) || false) ≡ false
    and_false true = refl
    and_false false = refl

-- the windows of so many rounds that begin with some starts and lack none or at most one, and the rounds so many later
pub record HasFull (set starts k full nearly next : ℕ) : Type 0 where
  pub none : (s : ℕ) → has full s ≡ (has starts s && lacks set s k == 0)
  pub one : (s : ℕ) → has nearly s ≡ (has starts s && nat_lt (lacks set s k) 2)
  pub later : (s : ℕ) → s + k < max_rounds → has next s ≡ has set (s + k)
  pub none_below : (m : ℕ) → IsBelow m starts → IsBelow m full
  pub one_below : (m : ℕ) → IsBelow m starts → IsBelow m nearly

pub full_none : (set starts : ℕ) → HasFull set starts 0 starts starts set
full_none set starts = record {
  none = λ s. sym (all_start (has starts s) (lacks set s 0) (lacks_none s));
  one = λ s. sym (nearly_start (has starts s) (lacks set s 0) (lacks_none s));
  later = λ s below. ap (has set) (sym (add-zero s));
  none_below = λ m below. below;
  one_below = λ m below. below;
}
  where
    lacks_none : (s : ℕ) → lacks set s 0 ≡ 0
    lacks_none s = sum_below_none (λ k. if not (has set (s + k)) then 1 else 0)

pub full_more : (set starts k full nearly next window kept new_full new_nearly new_next : ℕ) → HasFull set starts k full nearly next →
    IsBelow (max_rounds + 1 - window) starts → k < window → window ≤ max_rounds →
    ((s : ℕ) → has kept s ≡ (has nearly s && has next s)) → ((s : ℕ) → has new_nearly s ≡ (has kept s || has full s)) →
    ((s : ℕ) → has new_full s ≡ (has full s && has next s)) → ((s : ℕ) → s + 1 < max_rounds → has new_next s ≡ has next (s + 1)) →
    ((m : ℕ) → IsBelow m full → IsBelow m new_full) → ((m : ℕ) → IsBelow m nearly → IsBelow m kept) →
    ((m : ℕ) → IsBelow m kept → IsBelow m full → IsBelow m new_nearly) → HasFull set starts (k + 1) new_full new_nearly new_next
full_more set starts k full nearly next window kept new_full new_nearly new_next so_far below in_window in_season keeps nears fulls nexts
    full_below kept_below near_below = record {
      none = λ s.
          fulls s ∙ ap (λ b. b && has next s) (so_far.none s) ∙
          elim (cases_lt s (max_rounds + 1 - window)) [
            | inl start ↦
                ap (λ b. (has starts s && lacks set s k == 0) && b) (so_far.later s (omega arith)) ∙
                full_step (has starts s) (has set (s + k)) (lacks set s k) (lacks set s (k + 1)) (more s)
            | inr past ↦ rw (has_beyond (max_rounds + 1 - window) starts s below past) refl
          ];
      one = λ s.
          nears s ∙ ap (λ b. b || has full s) (keeps s) ∙ ap (λ b. (b && has next s) || has full s) (so_far.one s) ∙
          ap (λ b. ((has starts s && nat_lt (lacks set s k) 2) && has next s) || b) (so_far.none s) ∙
          elim (cases_lt s (max_rounds + 1 - window)) [
            | inl start ↦
                ap (λ b. ((has starts s && nat_lt (lacks set s k) 2) && b) || (has starts s && lacks set s k == 0))
                (so_far.later s (omega arith)) ∙
                nearly_step (has starts s) (has set (s + k)) (lacks set s k) (lacks set s (k + 1)) (more s)
            | inr past ↦ rw (has_beyond (max_rounds + 1 - window) starts s below past) refl
          ];
      later = λ s in_next. nexts s (omega arith) ∙ so_far.later (s + 1) (omega arith) ∙ ap (has set) (omega arith);
      none_below = λ m m_below. full_below m (so_far.none_below m m_below);
      one_below = λ m m_below. near_below m (kept_below m (so_far.one_below m m_below)) (so_far.none_below m m_below);
    }
  where
    more : (s : ℕ) → lacks set s (k + 1) ≡ lacks set s k + (if not (has set (s + k)) then 1 else 0)
    more s = sum_below_more k (λ j. if not (has set (s + j)) then 1 else 0)

-- no row yet
pub in_no_row : (rows : List ℕ) (teams first : ℕ) → IsInRows teams (rows_lack rows first 0) (record { each = teams; but_one = teams })
in_no_row rows teams first = record {
  each = λ t. sym (all_start (has teams t) (rows_lack rows first 0 t) (lacks_none t));
  but_one = λ t. sym (nearly_start (has teams t) (rows_lack rows first 0 t) (lacks_none t));
  each_below = λ m below. below;
  but_one_below = λ m below. below;
}
  where
    lacks_none : (t : ℕ) → rows_lack rows first 0 t ≡ 0
    lacks_none t = sum_below_none (λ k. if not (has (get_or rows (first + k) 0) t) then 1 else 0)

-- the same numbers of rows that lack a team
pub in_rows_same : (teams : ℕ) (lacks same : ℕ → ℕ) (in_rows : InRows) → ((t : ℕ) → lacks t ≡ same t) → IsInRows teams lacks in_rows →
    IsInRows teams same in_rows
in_rows_same teams lacks same in_rows is so_far = record {
  each = λ t. so_far.each t ∙ ap (λ n. has teams t && n == 0) (is t);
  but_one = λ t. so_far.but_one t ∙ ap (λ n. has teams t && nat_lt n 2) (is t);
  each_below = so_far.each_below;
  but_one_below = so_far.but_one_below;
}

-- the last row, and the first one
pub last_row : (rows : List ℕ) (first count t : ℕ) →
    rows_lack rows first count t + (if not (has (get_or rows (first + count) 0) t) then 1 else 0) ≡ rows_lack rows first (count + 1) t
last_row rows first count t = sym (sum_below_more count (λ k. if not (has (get_or rows (first + k) 0) t) then 1 else 0))

pub first_row : (rows : List ℕ) (first count t : ℕ) →
    rows_lack rows (first + 1) count t + (if not (has (get_or rows first 0) t) then 1 else 0) ≡ rows_lack rows first (1 + count) t
first_row rows first count t =
    let f : ℕ → ℕ = λ k. if not (has (get_or rows (first + k) 0) t) then 1 else 0 in
    omega (
      arith,
      sum_below_append 1 count f,
      sum_below_more 0 f,
      sum_below_none f,
      ap {B = ℕ} (λ r. if not (has (get_or rows r 0) t) then 1 else 0) (add-zero first),
      sum_below_same count (λ k. if not (has (get_or rows (first + 1 + k) 0) t) then 1 else 0) (λ k. f (1 + k))
          (λ k below. ap {B = ℕ} (λ r. if not (has (get_or rows r 0) t) then 1 else 0) (omega arith)),
    )

-- what a window has and what it lacks are all its rounds
has_and_lacks : (window : ℕ) (test : ℕ → Bool) → count_where window test + count_where window (λ k. not (test k)) ≡ window
has_and_lacks window test = sum_where_split window test (λ _. 1) ∙ ones window

-- by how much a window is over, told by what it lacks

one_short : (count m most : ℕ) → count + m ≡ most + 1 → (if m == 0 then 1 else 0) ≡ over count most
one_short count m most whole = elim (cases_eq m 0) [
  | inl none ↦ cond-true {A = ℕ} (m == 0) 1 0 (eq-eqb m 0 none) ∙ omega arith
  | inr some ↦ cond-false {A = ℕ} (m == 0) 1 0 (ne_eqb m 0 some) ∙ omega arith
]

two_short : (count m most : ℕ) → count + m ≡ most + 2 → (if m == 0 then 1 else 0) + (if nat_lt m 2 then 1 else 0) ≡ over count most
two_short count m most whole = elim (cases_lt m 2) [
  | inl few ↦ elim (cases_eq m 0) [
    | inl none ↦ omega (arith, cond-true {A = ℕ} (m == 0) 1 0 (eq-eqb m 0 none), cond-true {A = ℕ} (nat_lt m 2) 1 0 (lt-ltb m 2 few))
    | inr some ↦ omega (arith, cond-false {A = ℕ} (m == 0) 1 0 (ne_eqb m 0 some), cond-true {A = ℕ} (nat_lt m 2) 1 0 (lt-ltb m 2 few))
  ]
  | inr many ↦
      let some : m ≢ 0 = omega arith in
      omega (arith, cond-false {A = ℕ} (m == 0) 1 0 (ne_eqb m 0 some), cond-false {A = ℕ} (nat_lt m 2) 1 0 (le-ltb m 2 many))
]

-- the same where one more row may lack it

one_with : (bit : Bool) (count m most : ℕ) → count + (m + (if not bit then 1 else 0)) ≡ most + 1 →
    (if m == 0 && bit then 1 else 0) ≡ over count most
one_with true count m most whole = rw (and-true (m == 0)) (one_short count m most (omega (arith, whole)))
one_with false count m most whole = rw (and-false (m == 0)) (omega (arith, whole))

two_with : (bit : Bool) (count m most : ℕ) → count + (m + (if not bit then 1 else 0)) ≡ most + 2 →
    (if m == 0 then 1 else 0) + (if nat_lt m 2 && bit then 1 else 0) ≡ over count most
two_with true count m most whole = rw (and-true (nat_lt m 2)) (two_short count m most (omega (arith, whole)))
two_with false count m most whole =
    rw (and-false (nat_lt m 2)) (omega (arith, one_short count m most (omega (arith, whole))))

-- over all of some windows, or over some teams in one window: whether `s` has the round `k` of its window is `in_row s k`
module _ (in_row : ℕ → ℕ → Bool) (all n window most : ℕ) where
  pub over_in_shorter : window ≤ most → sum_where n (has all) (λ s. over (count_where window (in_row s)) most) ≡ 0
  over_in_shorter le = sum_below_zero n _ (λ s below. none (has all s) _ (omega (arith, has_and_lacks window (in_row s))))
    where
      none : (b : Bool) (x : ℕ) → x ≡ 0 → (if b then x else 0) ≡ 0
      none true x is = is
      none false x is = refl

  pub over_by_full : (full : ℕ) → window ≡ most + 1 →
      ((s : ℕ) → has full s ≡ (has all s && count_where window (λ k. not (in_row s k)) == 0)) →
      count_where n (has full) ≡ sum_where n (has all) (λ s. over (count_where window (in_row s)) most)
  over_by_full full longer members =
      sum_below_same n _ _
      (λ s below. ap {B = ℕ} (λ b. if b then 1 else 0) (members s) ∙ at (has all s) s)
    where
      at : (b : Bool) (s : ℕ) → (if b && count_where window (λ k. not (in_row s k)) == 0 then 1 else 0) ≡
          (if b then over (count_where window (in_row s)) most else 0)
      at true s = one_short _ (count_where window (λ k. not (in_row s k))) most (has_and_lacks window (in_row s) ∙ longer)
      at false s = refl

  pub over_by_both : (full nearly : ℕ) → window ≡ most + 2 →
      ((s : ℕ) → has full s ≡ (has all s && count_where window (λ k. not (in_row s k)) == 0)) →
      ((s : ℕ) → has nearly s ≡ (has all s && nat_lt (count_where window (λ k. not (in_row s k))) 2)) →
      count_where n (has full) + count_where n (has nearly) ≡
      sum_where n (has all) (λ s. over (count_where window (in_row s)) most)
  over_by_both full nearly longer fulls nears =
      sym (sum_below_add n (λ s. if has full s then 1 else 0) (λ s. if has nearly s then 1 else 0)) ∙
      sum_below_same n _ _
      (λ s below. rw (fulls s, nears s) (at (has all s) s))
    where
      at : (b : Bool) (s : ℕ) →
          (if b && count_where window (λ k. not (in_row s k)) == 0 then 1 else 0) +
          (if b && nat_lt (count_where window (λ k. not (in_row s k))) 2 then 1 else 0) ≡
          (if b then over (count_where window (in_row s)) most else 0)
      at true s = two_short _ (count_where window (λ k. not (in_row s k))) most (has_and_lacks window (in_row s) ∙ longer)
      at false s = refl

-- over some teams in one window, where another row is told apart from those that lack a team so many times
module _ (in_row : ℕ → ℕ → Bool) (lacks : ℕ → ℕ) (all row n window most : ℕ)
    (is : (t : ℕ) → lacks t + (if not (has row t) then 1 else 0) ≡ count_where window (λ k. not (in_row t k))) where
  pub over_with_full : (full : ℕ) → window ≡ most + 1 → ((t : ℕ) → has full t ≡ ((has all t && lacks t == 0) && has row t)) →
      count_where n (has full) ≡ sum_where n (has all) (λ t. over (count_where window (in_row t)) most)
  over_with_full full longer members =
      sum_below_same n _ _
      (λ t below. ap {B = ℕ} (λ b. if b then 1 else 0) (members t) ∙ at (has all t) t)
    where
      at : (b : Bool) (t : ℕ) → (if (b && lacks t == 0) && has row t then 1 else 0) ≡
          (if b then over (count_where window (in_row t)) most else 0)
      at true t = one_with (has row t) _ (lacks t) most (ap (λ m. count_where window (in_row t) + m) (is t) ∙ has_and_lacks window (in_row t) ∙ longer)
      at false t = refl

  pub over_with_both : (full nearly : ℕ) → window ≡ most + 2 → ((t : ℕ) → has full t ≡ (has all t && lacks t == 0)) →
      ((t : ℕ) → has nearly t ≡ ((has all t && nat_lt (lacks t) 2) && has row t)) →
      count_where n (has full) + count_where n (has nearly) ≡
      sum_where n (has all) (λ t. over (count_where window (in_row t)) most)
  over_with_both full nearly longer fulls nears =
      sym (sum_below_add n (λ t. if has full t then 1 else 0) (λ t. if has nearly t then 1 else 0)) ∙
      sum_below_same n _ _
      (λ t below. rw (fulls t, nears t) (at (has all t) t))
    where
      at : (b : Bool) (t : ℕ) →
          (if b && lacks t == 0 then 1 else 0) + (if (b && nat_lt (lacks t) 2) && has row t then 1 else 0) ≡
          (if b then over (count_where window (in_row t)) most else 0)
      at true t = two_with (has row t) _ (lacks t) most (ap (λ m. count_where window (in_row t) + m) (is t) ∙ has_and_lacks window (in_row t) ∙ longer)
      at false t = refl
