-- Numbers that seats hold, and entries under them.
use Rattle.std.specs.Prelude.{ℕ, ◌+◌, ◌<◌, List, [], ◌∷◌, cond, ◌==◌, nat_lt}
use Rattle.fixture_board.specs.declared.change.Entry.{Entry}

-- how often x stands in the list
abbrev pub times : ℕ → List ℕ → ℕ
times x [] = 0
times x (y ∷ ys) = cond (y == x) 1 0 + times x ys

-- 1 if x is below n, otherwise 0
abbrev pub once_below : ℕ → ℕ → ℕ
once_below x n = cond (nat_lt x n) 1 0

-- f of each, added up
abbrev pub total : {A : Type 0} → (A → ℕ) → List A → ℕ
total f [] = 0
total f (x ∷ xs) = f x + total f xs

-- how many of the entries are under numbers that are held, each counted as often as its number stands there
abbrev pub under : List ℕ → List Entry → ℕ
under held [] = 0
under held (e ∷ es) = times e.caller held + under held es

-- each number below n is held
abbrev pub HoldsEach : ℕ → List ℕ → Type 0
HoldsEach n held = (x : ℕ) → x < n → 0 < times x held

abbrev pub callers_below : ℕ → List Entry → Type 0
callers_below n [] = Unit {0}
callers_below n (e ∷ es) = (e.caller < n) × callers_below n es
