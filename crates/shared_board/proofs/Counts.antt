-- Numbers that are held, counted, and entries under them.
use Rattle.std.proofs.Common.{◌≡◌, ◌≢◌, ℕ, zero, suc, ◌+◌, ◌<◌, ◌≤◌, ◌==◌, cond, List, [], ◌∷◌, ◌++◌, length, set, refl}
use Rattle.std.proofs.Common.{ap, sym, ◌∙◌, lt_of_not-le, arith}
use Rattle.std.proofs.lemmas.Bool.Decides.{nat_tests}
use mathlib.Core.Option.{some, some-injective, some-ne-none}
use mathlib.Core.Logic.{dite}
use native.Mathlib.Decide.{ℕ_discrete, dec_le}
use lib.ListN.{get_elem?}
use Rattle.fixture_board.specs.declared.change.Entry.{Entry}
use Rattle.shared_board.specs.Held.{times, once_below, total, under, HoldsEach, callers_below}

pub times_append : (x : ℕ) (a b : List ℕ) → times x (a ++ b) ≡ times x a + times x b
times_append x [] b = omega arith
times_append x (y ∷ a) b = omega (arith, times_append x a b)

pub under_append : (held : List ℕ) (a b : List Entry) → under held (a ++ b) ≡ under held a + under held b
under_append held [] b = omega arith
under_append held (e ∷ a) b = omega (arith, under_append held a b)

pub under_both : (a b : List ℕ) (es : List Entry) → under (a ++ b) es ≡ under a es + under b es
under_both a b [] = omega arith
under_both a b (e ∷ es) = omega (arith, under_both a b es, times_append e.caller a b)

-- fewer numbers have no more entries
pub under_fewer : (a b : List ℕ) (es : List Entry) → ((x : ℕ) → times x a ≤ times x b) → under a es ≤ under b es
under_fewer a b [] fewer = omega arith
under_fewer a b (e ∷ es) fewer = omega (arith, fewer e.caller, under_fewer a b es fewer)

-- an entry counts once at most, where no number is held twice
pub under_most : (held : List ℕ) (es : List Entry) → ((x : ℕ) → times x held ≤ 1) → under held es ≤ length es
under_most held [] single = omega arith
under_most held (e ∷ es) single = omega (arith, single e.caller, under_most held es single)

-- no entry is under numbers that are none of the callers'
pub under_none : (held : List ℕ) (n : ℕ) (es : List Entry) → callers_below n es → ((x : ℕ) → x < n → times x held ≡ 0) → under held es ≡ 0
under_none held n [] below none = refl
under_none held n (e ∷ es) below none = omega (arith, none e.caller below.0, under_none held n es below.1 none)

-- each entry is under numbers that are all of the callers'
pub under_all : (held : List ℕ) (n : ℕ) (es : List Entry) → callers_below n es → ((x : ℕ) → x < n → times x held ≡ 1) →
    under held es ≡ length es
under_all held n [] below all = refl
under_all held n (e ∷ es) below all = omega (arith, all e.caller below.0, under_all held n es below.1 all)

pub callers_append : (n : ℕ) (a b : List Entry) → callers_below n a → callers_below n b → callers_below n (a ++ b)
callers_append n [] b p q = q
callers_append n (e ∷ a) b p q = (p.0, callers_append n a b p.1 q)

-- the callers of a history that begins so
pub callers_prefix : (n : ℕ) (a b : List Entry) → callers_below n (a ++ b) → callers_below n a
callers_prefix n [] b p = tt
callers_prefix n (e ∷ a) b p = (p.0, callers_prefix n a b p.1)

-- the callers of what comes after
pub callers_after : (n : ℕ) (a b : List Entry) → callers_below n (a ++ b) → callers_below n b
callers_after n [] b p = p
callers_after n (e ∷ a) b p = callers_after n a b p.1

pub callers_more : (n m : ℕ) (es : List Entry) → n ≤ m → callers_below n es → callers_below m es
callers_more n m [] le p = tt
callers_more n m (e ∷ es) le p = let first = p.0 in (omega arith, callers_more n m es le p.1)

pub once_most : (x n : ℕ) → once_below x n ≤ 1
once_most x n = grind (arith, nat_tests)

pub once_none : (x n : ℕ) → n ≤ x → once_below x n ≡ 0
once_none x n le = grind (arith, nat_tests)

once_all : (x n : ℕ) → x < n → once_below x n ≡ 1
once_all x n less = grind (arith, nat_tests)

pub once_next : (x n : ℕ) → cond (n == x) 1 0 + once_below x n ≡ once_below x (n + 1)
once_next x n = grind (arith, nat_tests)

pub once_more : (x n m : ℕ) → n ≤ m → once_below x n ≤ once_below x m
once_more x n m le = grind (arith, nat_tests)

-- what is counted of a number below n, and of no other
pub once_within : (x n k : ℕ) → k ≤ 1 → (n ≤ x → k ≡ 0) → k ≤ once_below x n
once_within x n k most none = elim
    (dec_le n x) [ yes le ↦ omega (arith, none le) | no more ↦ omega (arith, most, once_all x n (omega arith)) ]

-- a number that is held is below the count of those given out
pub held_below : (x n k : ℕ) → 0 < k → k ≤ once_below x n → x < n
held_below x n k some_held most = grind (arith, nat_tests)

-- a number of one's own
pub times_own : (n x : ℕ) → x < n → times x (n ∷ []) ≡ 0
times_own n x less = grind (arith, nat_tests)

pub times_one : (n x : ℕ) → times x (n ∷ []) ≤ 1
times_one n x = grind (arith, nat_tests)

pub times_self : (n : ℕ) → times n (n ∷ []) ≡ 1
times_self n = grind (arith, nat_tests)

module _ {A : Type 0} (f : A → ℕ) where
  pub total_append : (xs ys : List A) → total f (xs ++ ys) ≡ total f xs + total f ys
  total_append [] ys = omega arith
  total_append (x ∷ xs) ys = omega (arith, total_append xs ys)

  pub total_set : (xs : List A) (i : ℕ) (v w : A) → get_elem? xs i ≡ some v → total f (set xs i w) + f v ≡ total f xs + f w
  total_set [] i v w e = absurd (some-ne-none v (sym e))
  total_set (x ∷ xs) zero v w e = let same : f x ≡ f v = ap f (some-injective x v e) in omega arith
  total_set (x ∷ xs) (suc i) v w e = omega (arith, total_set xs i v w e)

  pub total_at : (xs : List A) (i : ℕ) (v : A) → get_elem? xs i ≡ some v → f v ≤ total f xs
  total_at [] i v e = absurd (some-ne-none v (sym e))
  total_at (x ∷ xs) zero v e = let same : f x ≡ f v = ap f (some-injective x v e) in omega arith
  total_at (x ∷ xs) (suc i) v e = omega (arith, total_at xs i v e)

  pub total_two : (xs : List A) (i j : ℕ) (u v : A) → i ≢ j → get_elem? xs i ≡ some u → get_elem? xs j ≡ some v → f u + f v ≤ total f xs
  total_two [] i j u v ne e d = absurd (some-ne-none u (sym e))
  total_two (x ∷ xs) zero zero u v ne e d = absurd (ne refl)
  total_two (x ∷ xs) zero (suc j) u v ne e d = let same : f x ≡ f u = ap f (some-injective x u e) in omega (arith, total_at xs j v d)
  total_two (x ∷ xs) (suc i) zero u v ne e d = let same : f x ≡ f v = ap f (some-injective x v d) in omega (arith, total_at xs i u e)
  total_two (x ∷ xs) (suc i) (suc j) u v ne e d = omega (arith, total_two xs i j u v (λ q. ne (ap suc q)) e d)

-- f of each number below n, added up
abbrev sum_to : ℕ → (ℕ → ℕ) → ℕ
sum_to zero f = 0
sum_to (suc n) f = sum_to n f + f n

sum_to_both : (n : ℕ) (f g : ℕ → ℕ) → sum_to n (λ x. f x + g x) ≡ sum_to n f + sum_to n g
sum_to_both zero f g = refl
sum_to_both (suc n) f g = omega (arith, sum_to_both n f g)

same_one : (y n : ℕ) → y ≡ n → cond {A = ℕ} (y == n) 1 0 ≡ 1
same_one y n e = grind (arith, nat_tests)

other_none : (y n : ℕ) → y ≢ n → cond {A = ℕ} (y == n) 1 0 ≡ 0
other_none y n ne = grind (arith, nat_tests)

sum_to_none : (n y : ℕ) → n ≤ y → sum_to n (λ x. cond (y == x) 1 0) ≡ 0
sum_to_none zero y le = refl
sum_to_none (suc n) y le = omega (arith, sum_to_none n y (omega arith), other_none y n (λ e. omega arith))

sum_to_one : (n y : ℕ) → y < n → sum_to n (λ x. cond (y == x) 1 0) ≡ 1
sum_to_one zero y less = absurd (omega arith)
sum_to_one (suc n) y less = dite (ℕ_discrete y n)
    (λ e. omega (arith, sum_to_none n y (omega arith), same_one y n e))
    (λ ne. omega (arith, sum_to_one n y (omega arith), other_none y n ne))

sum_to_zeros : (n : ℕ) → sum_to n (λ x. 0) ≡ 0
sum_to_zeros zero = refl
sum_to_zeros (suc n) = omega (arith, sum_to_zeros n)

-- numbers below n, counted by their values
sum_to_times : (n : ℕ) (held : List ℕ) → ((x : ℕ) → n ≤ x → times x held ≡ 0) → sum_to n (λ x. times x held) ≡ length held
sum_to_times n [] below = sum_to_zeros n
sum_to_times n (y ∷ held) below = dite (ℕ_discrete (times y (y ∷ held)) 0)
    (λ e. absurd (omega (arith, same_one y y refl)))
    (λ ne. let less : y < n = lt_of_not-le (λ le. ne (below y le)) in
    let both = sum_to_both n (λ x. cond (y == x) 1 0) (λ x. times x held) in
    let one = sum_to_one n y less in
    let rest = sum_to_times n held (λ x le. omega (arith, below x le)) in
    omega arith)

sum_to_most : (n : ℕ) (f : ℕ → ℕ) → ((x : ℕ) → f x ≤ 1) → sum_to n f ≤ n
sum_to_most zero f most = omega arith
sum_to_most (suc n) f most = omega (arith, most n, sum_to_most n f most)

sum_to_full : (n : ℕ) (f : ℕ → ℕ) → ((x : ℕ) → f x ≤ 1) → sum_to n f ≡ n → (x : ℕ) → x < n → f x ≡ 1
sum_to_full zero f most is x less = absurd (omega arith)
sum_to_full (suc n) f most is x less =
    let here = most n in let rest = sum_to_most n f most in
    dite (ℕ_discrete x n) (λ e. let there : f x ≡ f n = ap f e in omega arith) (λ ne. sum_to_full n f most (omega arith) x (omega arith))

-- Where n numbers are held, each below n and none twice, all are
pub all_held : (n : ℕ) (held : List ℕ) → length held ≡ n → ((x : ℕ) → times x held ≤ once_below x n) → (x : ℕ) → x < n → times x held ≡ 1
all_held n held is most = sum_to_full n (λ x. times x held) (λ x. omega (arith, most x, once_most x n))
    (sum_to_times n held (λ x le. omega (arith, most x, once_none x n le)) ∙ is)

-- no more are held than there are
pub held_most : (n : ℕ) (held : List ℕ) → ((x : ℕ) → times x held ≤ once_below x n) → length held ≤ n
held_most n held most =
    let a = sum_to_times n held (λ x le. omega (arith, most x, once_none x n le)) in
    let b = sum_to_most n (λ x. times x held) (λ x. omega (arith, most x, once_most x n)) in
    omega arith

equal_alike : (a b c : ℕ) → (a ≡ b → a ≡ c) → (a ≡ c → a ≡ b) → (a == b) ≡ (a == c)
equal_alike a b c f g = dite (ℕ_discrete a b) (λ e. ap (λ (n : ℕ). a == n) (sym e ∙ f e))
    (λ ne. let other : a ≢ c = λ e. ne (g e) in grind (arith, nat_tests))

-- where who holds each number that it knows of knows of all, it holds as many as there are just where it holds as many as it knows of
pub all_alike : (given n : ℕ) (held : List ℕ) → given ≤ n → ((x : ℕ) → times x held ≤ once_below x given) →
    (HoldsEach given held → given ≡ n) → (length held == n) ≡ (length held == given)
all_alike given n held le own all =
    let most = held_most given held own in
    equal_alike (length held) n given (λ e. omega arith)
    (λ e. e ∙ all (λ x less. omega (arith, all_held given held e own x less)))
