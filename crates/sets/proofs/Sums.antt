-- Laws of sums, counts and tests over the numbers below n.
use Rattle.std.proofs.Common.{◌≡◌, ℕ, zero, suc, ◌+◌, ◌*◌, ◌<◌, ◌≤◌, ◌≢◌, ◌&&◌, ◌||◌, not, Bool, true, false}
use Rattle.std.proofs.Common.{if◌then◌else◌, refl, sym, ◌∙◌, ap, inl, inr, arith}
use Rattle.std.proofs.Math.Nat.{mul-le-mul_right, le_of_lt, zero-add}
use Rattle.std.proofs.Math.Numerals.{suc-eq-add-one}
use Rattle.std.proofs.lemmas.Bool.{cases_eq, and_parts, or_from, or_left, or_right}
use Rattle.std.proofs.lemmas.Bool.{false_from_ne_true, cond-true, cond-false}
use Rattle.sets.specs.Sums.{sum_below, sum_where, count_where, sum_of_pairs, all_below, any_below}

-- what a loop over the numbers below n begins with, and what a step adds

pub sum_below_none : (f : ℕ → ℕ) → sum_below 0 f ≡ 0
unfolding sum_below
sum_below_none f = refl

pub sum_below_more : (n : ℕ) (f : ℕ → ℕ) → sum_below (n + 1) f ≡ sum_below n f + f n
unfolding sum_below
sum_below_more n f = rw (← suc-eq-add-one n) refl

pub all_below_none : (test : ℕ → Bool) → all_below 0 test ≡ true
unfolding all_below
all_below_none test = refl

pub all_below_more : (n : ℕ) (test : ℕ → Bool) → all_below (n + 1) test ≡ (all_below n test && test n)
unfolding all_below
all_below_more n test = rw (← suc-eq-add-one n) refl

pub ruleset each_below = (all_below_none, all_below_more)

pub any_below_none : (test : ℕ → Bool) → any_below 0 test ≡ false
unfolding any_below
any_below_none test = refl

pub any_below_more : (n : ℕ) (test : ℕ → Bool) → any_below (n + 1) test ≡ (any_below n test || test n)
unfolding any_below
any_below_more n test = rw (← suc-eq-add-one n) refl

-- sums

pub sum_below_same : (n : ℕ) (f g : ℕ → ℕ) → ((k : ℕ) → k < n → f k ≡ g k) → sum_below n f ≡ sum_below n g
unfolding sum_below
sum_below_same zero f g same = refl
sum_below_same (suc n) f g same =
    omega (arith, sum_below_same n f g (λ k below. same k (omega arith)), same n (omega arith))

pub sum_below_zero : (n : ℕ) (f : ℕ → ℕ) → ((k : ℕ) → k < n → f k ≡ 0) → sum_below n f ≡ 0
unfolding sum_below
sum_below_zero zero f each = refl
sum_below_zero (suc n) f each =
    omega (arith, sum_below_zero n f (λ k below. each k (omega arith)), each n (omega arith))

-- each term at most the other
pub sum_below_le_each : (n : ℕ) (f g : ℕ → ℕ) → ((k : ℕ) → k < n → f k ≤ g k) → sum_below n f ≤ sum_below n g
unfolding sum_below
sum_below_le_each zero f g each = omega arith
sum_below_le_each (suc n) f g each =
    omega (arith, sum_below_le_each n f g (λ k below. each k (omega arith)), each n (omega arith))

-- each term at most a bound
pub sum_below_le : (n most : ℕ) (f : ℕ → ℕ) → ((k : ℕ) → k < n → f k ≤ most) → sum_below n f ≤ n * most
unfolding sum_below
sum_below_le zero most f each = omega arith
sum_below_le (suc n) most f each =
    omega (arith, sum_below_le n most f (λ k below. each k (omega arith)), each n (omega arith))

pub sum_below_add : (n : ℕ) (f g : ℕ → ℕ) → sum_below n (λ k. f k + g k) ≡ sum_below n f + sum_below n g
unfolding sum_below
sum_below_add zero f g = refl
sum_below_add (suc n) f g = omega (arith, sum_below_add n f g)

-- what comes from m on is 0
pub sum_below_past : (m n : ℕ) (f : ℕ → ℕ) → m ≤ n → ((k : ℕ) → m ≤ k → k < n → f k ≡ 0) → sum_below n f ≡ sum_below m f
unfolding sum_below
sum_below_past m zero f le past = let none : m ≡ 0 = omega arith in rw none refl
sum_below_past m (suc n) f le past = elim (cases_eq m (suc n)) [
  | inl same ↦ rw same refl
  | inr other ↦
      omega (arith, sum_below_past m n f (omega arith) (λ k from below. past k from (omega arith)), past n (omega arith) (omega arith))
]

-- The order of two sums is free.
pub sum_below_swap : (m n : ℕ) (f : ℕ → ℕ → ℕ)
    → sum_below m (λ i. sum_below n (f i)) ≡ sum_below n (λ j. sum_below m (λ i. f i j))
unfolding sum_below
sum_below_swap zero n f = sym (sum_below_zero n (λ j. sum_below 0 (λ i. f i j)) (λ j below. refl))
sum_below_swap (suc m) n f = omega (arith, sum_below_swap m n f, sum_below_add n (λ j. sum_below m (λ i. f i j)) (f m))

-- one term of g is larger by d than that of f, and the others are the same
pub sum_below_one : (n j d : ℕ) (f g : ℕ → ℕ) → j < n → g j ≡ f j + d → ((k : ℕ) → k < n → k ≢ j → g k ≡ f k)
    → sum_below n g ≡ sum_below n f + d
unfolding sum_below
sum_below_one zero j d f g below larger others = omega arith
sum_below_one (suc n) j d f g below larger others = elim (cases_eq j n) [
  | inl last ↦
      omega (arith, sum_below_same n g f (λ k k_below. others k (omega arith) (omega (arith, last))), ap f last, ap g last, larger)
  | inr other ↦
      omega (
        arith,
        sum_below_one n j d f g (omega arith) larger (λ k k_below. others k (omega arith)),
        others n (omega arith) (λ is. other (sym is)),
      )
]

-- all terms but one are 0
pub sum_below_only : (n j : ℕ) (f : ℕ → ℕ) → j < n → ((k : ℕ) → k < n → k ≢ j → f k ≡ 0) → sum_below n f ≡ f j
sum_below_only n j f below others =
    sum_below_one n j (f j) (λ _. 0) f below (sym (zero-add (f j))) others
    ∙ omega (arith, sum_below_zero n (λ _. 0) (λ k k_below. refl))

-- a part changes by as much as the whole, where it does so in each term
pub sum_below_balance : (n : ℕ) (new old part_new part_old : ℕ → ℕ)
    → ((k : ℕ) → k < n → new k + part_old k ≡ old k + part_new k)
    → sum_below n new + sum_below n part_old ≡ sum_below n old + sum_below n part_new
unfolding sum_below
sum_below_balance zero new old part_new part_old each = refl
sum_below_balance (suc n) new old part_new part_old each =
    omega (arith, sum_below_balance n new old part_new part_old (λ k below. each k (omega arith)), each n (omega arith))

-- sums and counts of those that pass a test

if_same : (b c : Bool) (x y : ℕ) → b ≡ c → (b ≡ true → x ≡ y) → (if b then x else 0) ≡ (if c then y else 0)
if_same true c x y is same = rw (← is) (same refl)
if_same false c x y is same = rw (← is) refl

pub sum_where_same : (n : ℕ) (test other : ℕ → Bool) (f g : ℕ → ℕ) → ((k : ℕ) → k < n → test k ≡ other k)
    → ((k : ℕ) → k < n → test k ≡ true → f k ≡ g k) → sum_where n test f ≡ sum_where n other g
sum_where_same n test other f g tests terms =
    sum_below_same n (λ k. if test k then f k else 0) (λ k. if other k then g k else 0)
    (λ k below. if_same (test k) (other k) (f k) (g k) (tests k below) (terms k below))

pub count_where_same : (n : ℕ) (test other : ℕ → Bool) → ((k : ℕ) → k < n → test k ≡ other k)
    → count_where n test ≡ count_where n other
count_where_same n test other tests = sum_where_same n test other (λ _. 1) (λ _. 1) tests (λ k below passes. refl)

pub sum_where_none : (n : ℕ) (test : ℕ → Bool) (f : ℕ → ℕ) → ((k : ℕ) → k < n → test k ≡ false) → sum_where n test f ≡ 0
sum_where_none n test f fails =
    sum_below_zero n (λ k. if test k then f k else 0) (λ k below. cond-false (test k) (f k) 0 (fails k below))

pub count_where_none : (n : ℕ) (test : ℕ → Bool) → ((k : ℕ) → k < n → test k ≡ false) → count_where n test ≡ 0
count_where_none n test fails = sum_where_none n test (λ _. 1) fails

pub sum_where_all : (n : ℕ) (test : ℕ → Bool) (f : ℕ → ℕ) → ((k : ℕ) → k < n → test k ≡ true)
    → sum_where n test f ≡ sum_below n f
sum_where_all n test f passes =
    sum_below_same n (λ k. if test k then f k else 0) f (λ k below. cond-true (test k) (f k) 0 (passes k below))

pub if_le : (b : Bool) (x most : ℕ) → (b ≡ true → x ≤ most) → (if b then x else 0) ≤ most
if_le true x most le = le refl
if_le false x most le = omega arith

pub sum_where_le : (n most : ℕ) (test : ℕ → Bool) (f : ℕ → ℕ) → ((k : ℕ) → k < n → test k ≡ true → f k ≤ most)
    → sum_where n test f ≤ n * most
sum_where_le n most test f each =
    sum_below_le n most (λ k. if test k then f k else 0) (λ k below. if_le (test k) (f k) most (each k below))

pub count_where_le : (n : ℕ) (test : ℕ → Bool) → count_where n test ≤ n
count_where_le n test = omega (arith, sum_where_le n 1 test (λ _. 1) (λ k below passes. omega arith))

if_split : (b : Bool) (x : ℕ) → (if b then x else 0) + (if not b then x else 0) ≡ x
if_split true x = omega arith
if_split false x = zero-add x

-- those that pass and those that don't are all
pub sum_where_split : (n : ℕ) (test : ℕ → Bool) (f : ℕ → ℕ)
    → sum_where n test f + sum_where n (λ k. not (test k)) f ≡ sum_below n f
sum_where_split n test f =
    sym (sum_below_add n (λ k. if test k then f k else 0) (λ k. if not (test k) then f k else 0))
    ∙ sum_below_same n (λ k. (if test k then f k else 0) + (if not (test k) then f k else 0)) f (λ k below. if_split (test k) (f k))

-- sums over pairs

pub sum_of_pairs_same : (n : ℕ) (f g : ℕ → ℕ → ℕ) → ((i j : ℕ) → i < j → j < n → f i j ≡ g i j)
    → sum_of_pairs n f ≡ sum_of_pairs n g
sum_of_pairs_same n f g same =
    sum_below_same n (λ j. sum_below j (λ i. f i j)) (λ j. sum_below j (λ i. g i j))
    (λ j j_below. sum_below_same j (λ i. f i j) (λ i. g i j) (λ i i_below. same i j i_below j_below))

pub sum_of_pairs_le : (n most : ℕ) (f : ℕ → ℕ → ℕ) → ((i j : ℕ) → i < j → j < n → f i j ≤ most)
    → sum_of_pairs n f ≤ n * (n * most)
sum_of_pairs_le n most f each =
    sum_below_le n (n * most) (λ j. sum_below j (λ i. f i j))
    (λ j j_below. omega (
      arith,
      sum_below_le j most (λ i. f i j) (λ i i_below. each i j i_below j_below),
      mul-le-mul_right most (le_of_lt j_below),
    ))

pub sum_of_pairs_balance : (n : ℕ) (new old part_new part_old : ℕ → ℕ → ℕ)
    → ((i j : ℕ) → i < j → j < n → new i j + part_old i j ≡ old i j + part_new i j)
    → sum_of_pairs n new + sum_of_pairs n part_old ≡ sum_of_pairs n old + sum_of_pairs n part_new
sum_of_pairs_balance n new old part_new part_old each =
    sum_below_balance n (λ j. sum_below j (λ i. new i j)) (λ j. sum_below j (λ i. old i j)) (λ j. sum_below j (λ i. part_new i j))
    (λ j. sum_below j (λ i. part_old i j))
    (λ j j_below. sum_below_balance j (λ i. new i j) (λ i. old i j) (λ i. part_new i j) (λ i. part_old i j)
    (λ i i_below. each i j i_below j_below))

-- whether all pass

pub all_below_passes : (n : ℕ) (test : ℕ → Bool) → all_below n test ≡ true → (k : ℕ) → k < n → test k ≡ true
unfolding all_below
all_below_passes zero test passed k below = absurd (omega arith)
all_below_passes (suc n) test passed k below =
    let parts = and_parts (all_below n test) (test n) passed in
    elim (cases_eq k n) [
      | inl last ↦ rw last parts.1
      | inr other ↦ all_below_passes n test parts.0 k (omega arith)
    ]

pub all_below_fails : (n : ℕ) (test : ℕ → Bool) (k : ℕ) → k < n → test k ≡ false → all_below n test ≡ false
all_below_fails n test k below fails =
    false_from_ne_true (all_below n test) (λ passed. cc (all_below_passes n test passed k below, fails))

pub all_below_same : (n : ℕ) (test other : ℕ → Bool) → ((k : ℕ) → k < n → test k ≡ other k)
    → all_below n test ≡ all_below n other
unfolding all_below
all_below_same zero test other same = refl
all_below_same (suc n) test other same =
    rw (all_below_same n test other (λ k below. same k (omega arith)), same n (omega arith)) refl

-- whether one passes

pub any_below_found : (n : ℕ) (test : ℕ → Bool) (k : ℕ) → k < n → test k ≡ true → any_below n test ≡ true
unfolding any_below
any_below_found zero test k below passes = absurd (omega arith)
any_below_found (suc n) test k below passes = elim (cases_eq k n) [
  | inl last ↦ or_right (any_below n test) (test n) (rw (← last) passes)
  | inr other ↦ or_left (any_below n test) (test n) (any_below_found n test k (omega arith) passes)
]

pub any_below_from_none : (n : ℕ) (test : ℕ → Bool) → ((k : ℕ) → k < n → test k ≡ false) → any_below n test ≡ false
unfolding any_below
any_below_from_none zero test each = refl
any_below_from_none (suc n) test each =
    or_from (any_below n test) (test n) (any_below_from_none n test (λ k below. each k (omega arith))) (each n (omega arith))

pub any_below_fails : (n : ℕ) (test : ℕ → Bool) → any_below n test ≡ false → (k : ℕ) → k < n → test k ≡ false
any_below_fails n test failed k below =
    false_from_ne_true (test k) (λ passes. cc (any_below_found n test k below passes, failed))

pub any_below_same : (n : ℕ) (test other : ℕ → Bool) → ((k : ℕ) → k < n → test k ≡ other k)
    → any_below n test ≡ any_below n other
unfolding any_below
any_below_same zero test other same = refl
any_below_same (suc n) test other same =
    rw (any_below_same n test other (λ k below. same k (omega arith)), same n (omega arith)) refl
