-- What stands behind what was read.
use Rattle.std.proofs.Common.{◌≡◌, ℕ, ◌+◌, ◌==◌, Bool, false, List, [], ◌∷◌, ◌++◌, length, Result, Ok, Err, refl, sym, ap, append_assoc}
use Rattle.league_csv.specs.declared.fault.DistanceFault.{DistanceFault}
use Rattle.league_csv.specs.declared.measures.Measure.{Measure}
use Rattle.league_csv.specs.Measures.{measure_between}
use Rattle.league_csv.specs.Reading.{◌>>=◌, behind, placed}
use Rattle.league_csv.specs.Rows.{first_column, measures_from}

behind_twice : {A : Type 0} (a b : List A) (more : Result (List A) DistanceFault) → behind a (behind b more) ≡ behind (a ++ b) more
behind_twice a b (Ok more) = ap Ok (sym (append_assoc a b more))
behind_twice a b (Err fault) = refl

-- the distance of one cell more
pub one_more : (separator : ℕ) (in_column : Bool) (names : List (List ℕ)) (line team other : ℕ) (cell : List ℕ) (cells : List (List ℕ))
    (front : List Measure) (m : Measure) → (other == length names) ≡ false
    → placed line (first_column in_column + other) (measure_between separator team other cell) ≡ Ok m
    → behind front (measures_from separator in_column names line team other (cell ∷ cells))
    ≡ behind (front ++ m ∷ []) (measures_from separator in_column names line team (other + 1) cells)
one_more separator in_column names line team other cell cells front m differs is =
    rw (differs, is) (behind_twice front (m ∷ []) (measures_from separator in_column names line team (other + 1) cells))

module _ {A B : Type 0} where
  -- what was read first, if all was
  pub bound : (first : Result A DistanceFault) (next : A → Result B DistanceFault) (y : B) → (first >>= next) ≡ Ok y
      → (x : A) × (first ≡ Ok x) × (next x ≡ Ok y)
  bound (Ok x) next y is = (x, refl, is)
  bound (Err fault) next y is = absurd cc

-- a fault is no value
pub refused : {A : Type 0} (fault : DistanceFault) (x : A) → Err fault ≡ Ok x → ⊥
refused fault x is = cc

module _ {A : Type 0} where
  abbrev list_in : Result (List A) DistanceFault → List A
  list_in (Ok xs) = xs
  list_in (Err fault) = []

  abbrev the_ok : List A → Result (List A) DistanceFault
  the_ok xs = Ok xs

  pub same_list : (a b : List A) → the_ok a ≡ Ok b → a ≡ b
  same_list a b is = ap list_in is

  pub read_behind : (front whole : List A) (more : Result (List A) DistanceFault) → behind front more ≡ Ok whole
      → (rest : List A) × (more ≡ Ok rest) × (front ++ rest ≡ whole)
  read_behind front whole (Ok rest) is = (rest, refl, same_list (front ++ rest) whole is)
  read_behind front whole (Err fault) is = absurd cc
