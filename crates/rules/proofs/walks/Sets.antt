-- How many numbers there are in the sets that counting makes.
use Rattle.std.proofs.Common.{◌≡◌, ℕ, zero, suc, ◌+◌, ◌-◌, ◌<◌, ◌≤◌, ◌&&◌, not, nat_lt, Bool, true, false, if◌then◌else◌, refl, sym, ◌∙◌}
use Rattle.std.proofs.Common.{ap, inl, inr, arith}
use mir.Val.{bool_byte}
use Rattle.std.proofs.Math.Nat.{add-zero, add-suc}
use Rattle.std.proofs.lemmas.Bool.{cases_eq, cond-false, lt-ltb, le-ltb}
use Rattle.league.specs.Sets.{has}
use Rattle.league.specs.Sums.{sum_below, sum_where, count_where}
use Rattle.league.proofs.ForCallers.{sum_below_none, sum_below_more, sum_below_zero, sum_below_swap, sum_below_same, count_where_same}
use Rattle.league.proofs.ForCallers.{count_where_none}

-- how many numbers there are
pub ones : (n : ℕ) → sum_below n (λ _. 1) ≡ n
unfolding sum_below
ones zero = refl
ones (suc n) = omega (arith, ones n)

-- the first m terms, and n more
pub sum_below_append : (m n : ℕ) (f : ℕ → ℕ) → sum_below (m + n) f ≡ sum_below m f + sum_below n (λ k. f (m + k))
unfolding sum_below
sum_below_append m zero f = rw (add-zero m) (omega arith)
sum_below_append m (suc n) f = rw (add-suc m n) (omega (arith, sum_below_append m n f))

-- where 0 doesn't pass
pub count_after_first : (n : ℕ) (test : ℕ → Bool) → test 0 ≡ false → count_where n test ≡ count_where (n - 1) (λ k. test (1 + k))
unfolding sum_below
count_after_first n test none = elim (cases_eq n 0) [
  | inl empty ↦ rw empty refl
  | inr some ↦
      let size : n ≡ 1 + (n - 1) = omega arith in
      omega (
        arith,
        ap {B = ℕ} (λ m. count_where m test) size,
        sum_below_append 1 (n - 1) (λ k. if test k then 1 else 0),
        sum_below_more 0 (λ k. if test k then 1 else 0),
        sum_below_none (λ k. if test k then 1 else 0),
        cond-false {A = ℕ} (test 0) 1 0 none,
      )
]

-- a set of those below n that pass a test
pub count_of_members : (n set : ℕ) (test : ℕ → Bool) → ((k : ℕ) → has set k ≡ (nat_lt k n && test k)) →
    count_where n (has set) ≡ count_where n test
count_of_members n set test members =
    count_where_same n (has set) test (λ k below. members k ∙ ap (λ b. b && test k) (lt-ltb k n below))

-- 1 where it is so
pub byte_is : (b : Bool) → bool_byte b ≡ (if b then 1 else 0)
byte_is true = refl
byte_is false = refl

pub byte_le : (b : Bool) → bool_byte b ≤ 1
byte_le true = omega arith
byte_le false = omega arith

-- those that pass a second test

pub sum_of_both : (n : ℕ) (test other : ℕ → Bool) (f : ℕ → ℕ) →
    sum_where n test (λ k. if other k then f k else 0) ≡ sum_where n (λ k. test k && other k) f
sum_of_both n test other f = sum_below_same n _ _ (λ k below. at (test k) (other k) (f k))
  where
    at : (b c : Bool) (x : ℕ) → ◌≡◌ {A = ℕ} (if b then (if c then x else 0) else 0) (if b && c then x else 0)
    at true c x = refl
    at false c x = refl

pub count_of_both : (n : ℕ) (test other : ℕ → Bool) →
    sum_where n test (λ k. if other k then 1 else 0) ≡ count_where n (λ k. test k && other k)
count_of_both n test other = sum_of_both n test other (λ _. 1)

-- those of a window
pub count_in_window : (rounds set first window : ℕ) →
    ((k : ℕ) → has set k ≡ ((nat_lt k (first + window) && not (nat_lt k first)) && has rounds k)) →
    count_where (first + window) (has set) ≡ count_where window (λ k. has rounds (first + k))
count_in_window rounds set first window members =
    omega (
      arith,
      sum_below_append first window (λ k. if has set k then 1 else 0),
      count_where_none first (has set) before,
      count_where_same window (λ k. has set (first + k)) (λ k. has rounds (first + k)) inside,
    )
  where
    neither : (b c : Bool) → ((b && false) && c) ≡ false
    neither true c = refl
    neither false c = refl

    before : (k : ℕ) → k < first → has set k ≡ false
    before k below =
        members k ∙ ap (λ b. (nat_lt k (first + window) && not b) && has rounds k) (lt-ltb k first below) ∙
        neither (nat_lt k (first + window)) (has rounds k)

    inside : (k : ℕ) → k < window → has set (first + k) ≡ has rounds (first + k)
    inside k below =
        members (first + k) ∙
        ap (λ b. (b && not (nat_lt (first + k) first)) && has rounds (first + k)) (lt-ltb (first + k) (first + window) (omega arith)) ∙
        ap (λ b. not b && has rounds (first + k)) (le-ltb (first + k) first (omega arith))

-- a count under a condition
if_count : (b : Bool) (n : ℕ) (test : ℕ → Bool) → (if b then count_where n test else 0) ≡ count_where n (λ k. b && test k)
if_count true n test = refl
if_count false n test = sym (sum_below_zero n (λ k. if false && test k then 1 else 0) (λ k below. refl))

exchanged : (a b c : Bool) → (a && (b && c)) ≡ (b && (a && c))
exchanged true b c = refl
exchanged false true c = refl
exchanged false false c = refl

-- counted by rows or by columns
pub sum_of_counts_swap : (m n : ℕ) (rows columns : ℕ → Bool) (test : ℕ → ℕ → Bool) →
    sum_where m rows (λ i. count_where n (λ j. columns j && test i j)) ≡ sum_where n columns (λ j. count_where m (λ i. rows i && test i j))
sum_of_counts_swap m n rows columns test =
    sum_below_same m (λ i. if rows i then count_where n (λ j. columns j && test i j) else 0)
    (λ i. count_where n (λ j. rows i && (columns j && test i j))) (λ i below. if_count (rows i) n (λ j. columns j && test i j)) ∙
    sum_below_swap m n (λ i j. if rows i && (columns j && test i j) then 1 else 0) ∙
    sum_below_same n (λ j. count_where m (λ i. rows i && (columns j && test i j)))
    (λ j. if columns j then count_where m (λ i. rows i && test i j) else 0)
    (λ j j_below.
    count_where_same m (λ i. rows i && (columns j && test i j)) (λ i. columns j && (rows i && test i j))
    (λ i i_below. exchanged (rows i) (columns j) (test i j)) ∙
    sym (if_count (columns j) m (λ i. rows i && test i j)))

-- a sum by rows or by columns

if_sum : (b : Bool) (n : ℕ) (f : ℕ → ℕ) → (if b then sum_below n f else 0) ≡ sum_below n (λ k. if b then f k else 0)
if_sum true n f = refl
if_sum false n f = sym (sum_below_zero n (λ k. if false then f k else 0) (λ k below. refl))

if_exchanged : (a b : Bool) (x : ℕ) → (if a then (if b then x else 0) else 0) ≡ (if b then (if a then x else 0) else 0)
if_exchanged true b x = refl
if_exchanged false true x = refl
if_exchanged false false x = refl

pub sum_where_swap : (m n : ℕ) (rows columns : ℕ → Bool) (f : ℕ → ℕ → ℕ) →
    sum_where m rows (λ i. sum_where n columns (λ j. f i j)) ≡ sum_where n columns (λ j. sum_where m rows (λ i. f i j))
sum_where_swap m n rows columns f =
    sum_below_same m (λ i. if rows i then sum_where n columns (f i) else 0)
    (λ i. sum_below n (λ j. if rows i then (if columns j then f i j else 0) else 0))
    (λ i below. if_sum (rows i) n (λ j. if columns j then f i j else 0)) ∙
    sum_below_swap m n (λ i j. if rows i then (if columns j then f i j else 0) else 0) ∙
    sum_below_same n (λ j. sum_below m (λ i. if rows i then (if columns j then f i j else 0) else 0))
    (λ j. if columns j then sum_where m rows (λ i. f i j) else 0)
    (λ j j_below.
    sum_below_same m (λ i. if rows i then (if columns j then f i j else 0) else 0)
    (λ i. if columns j then (if rows i then f i j else 0) else 0) (λ i below. if_exchanged (rows i) (columns j) (f i j)) ∙
    sym (if_sum (columns j) m (λ i. if rows i then f i j else 0)))
