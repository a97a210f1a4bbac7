-- A table that is the same both ways passes a league's checks.
use Rattle.std.proofs.Common.{◌≡◌, ℕ, zero, suc, ◌+◌, ◌/◌, ◌<◌, ◌≤◌, ◌^◌, ◌&&◌, ◌==◌, max, nat_le, Bool, true, false, List, [], ◌∷◌, length, map, Option, Some, None, Ok, refl, sym, ap, ◌∙◌, zero-add, arith}
use Rattle.std.specs.Prelude.{⊤}
use Rattle.std.specs.List.{list_all, range_with_len}
use Rattle.std.proofs.lemmas.Bool.{and_from, eq-eqb, le-leb}
use Rattle.std.proofs.lemmas.List.FromFn.{get_or-map-range_with_len, length-map-range_with_len}
use Rattle.league.specs.Checks.{distance_of, is_team_count, has_columns, is_square, are_in_range, has_zero_diagonal, is_mirrored_at, is_symmetric, checked}
use Rattle.league.specs.Limits.{max_distance}
use Rattle.league.specs.Sums.{all_below}
use Rattle.league_csv.specs.declared.measures.Measure.{Measure}
use Rattle.choices.specs.declared.symmetry.Symmetry.{Symmetry}
use Rattle.choices.specs.declared.symmetry.Symmetry.TheVariants.{Mean, Max}
use Rattle.league_csv.specs.Sides.{both_ways, from_to, leveled, leveled_row, side}
use Rattle.league_csv.proofs.Facts.{AreRows, rows_near, rows_own}
use Rattle.league_csv.proofs.Lexed.{AreSmall, RowsAreSmall}

all_pass : (n : ℕ) (test : ℕ → Bool) → ((k : ℕ) → k < n → test k ≡ true) → all_below n test ≡ true
unfolding all_below
all_pass zero test each = refl
all_pass (suc n) test each = and_from (all_below n test) (test n) (all_pass n test (λ k below. each k (omega (arith, below)))) (each n (omega arith))

each_mapped : {A : Type 0} (test : A → Bool) (f : ℕ → A) → ((k : ℕ) → test (f k) ≡ true) → (ks : List ℕ) → list_all test (map f ks) ≡ true
each_mapped test f each [] = refl
each_mapped test f each (k ∷ ks) = and_from (test (f k)) (list_all test (map f ks)) (each k) (each_mapped test f each ks)

-- ---- of two distances

ways_near : (choice : Option Symmetry) (there back : ℕ) → there ≤ max_distance → back ≤ max_distance → both_ways choice there back ≤ max_distance
ways_near (Some Mean) there back a b = omega (arith, a, b)
ways_near (Some Max) there back a b = omega (arith, a, b)
ways_near None there back a b = omega (arith, a, b)

ways_none : (choice : Option Symmetry) → both_ways choice 0 0 ≡ 0
ways_none (Some Mean) = refl
ways_none (Some Max) = refl
ways_none None = refl

ways_same : (choice : Option Symmetry) (there back : ℕ) → both_ways choice there back ≡ both_ways choice back there
ways_same (Some Mean) there back = ap (λ n. (n + 1) / 2) (omega arith)
ways_same (Some Max) there back = omega arith
ways_same None there back = omega arith

module _ (choice : Option Symmetry) (n : ℕ) (rows : List (List Measure)) (are : AreRows 0 rows) where
  side_near : (a b : ℕ) → side choice rows a b ≤ max_distance
  side_near a b = ways_near choice (from_to rows a b) (from_to rows b a) (rows_near 0 rows are a b) (rows_near 0 rows are b a)

  distance_is : (a b : ℕ) → a < n → b < n → distance_of (leveled choice n rows) a b ≡ side choice rows a b
  distance_is a b a_below b_below =
      rw (get_or-map-range_with_len (leveled_row choice n rows) 0 n a a [] a_below (zero-add a))
      (get_or-map-range_with_len (side choice rows a) 0 n b b 0 b_below (zero-add b))

  square : is_square n (leveled choice n rows) ≡ true
  square =
      and_from _ _ (eq-eqb _ _ (length-map-range_with_len (leveled_row choice n rows) 0 n))
      (each_mapped (λ row. length row == n) (leveled_row choice n rows) (λ a. eq-eqb _ _ (length-map-range_with_len (side choice rows a) 0 n)) (range_with_len 0 n))

  in_range : are_in_range (leveled choice n rows) ≡ true
  in_range =
      each_mapped (list_all (λ x. nat_le x max_distance)) (leveled_row choice n rows)
      (λ a. each_mapped (λ x. nat_le x max_distance) (side choice rows a) (λ b. le-leb _ _ (side_near a b)) (range_with_len 0 n)) (range_with_len 0 n)

  zero_diagonal : has_zero_diagonal n (leveled choice n rows) ≡ true
  unfolding has_zero_diagonal
  zero_diagonal = all_pass n _ (λ a below. eq-eqb _ _ (distance_is a a below below ∙ own a))
    where
      own : (a : ℕ) → side choice rows a a ≡ 0
      own a = ap (λ d. both_ways choice d d) (rows_own rows are a) ∙ ways_none choice

  symmetric : is_symmetric n (leveled choice n rows) ≡ true
  unfolding is_symmetric is_mirrored_at
  symmetric = all_pass n _ (λ a a_below. all_pass n _ (λ b b_below. eq-eqb _ _ (distance_is a b a_below b_below
      ∙ ways_same choice (from_to rows a b) (from_to rows b a) ∙ sym (distance_is b a b_below a_below))))

  pub sound : is_team_count n ≡ true → checked n (leveled choice n rows) 0 ≡ Ok tt
  unfolding checked
  sound counted = rw (counted, square, in_range, zero_diagonal, symmetric) refl

  small_row : (a : ℕ) (bs : List ℕ) → AreSmall (map (side choice rows a) bs)
  small_row a [] = tt
  small_row a (b ∷ bs) = (omega (arith, side_near a b), small_row a bs)

  small_rows : (places : List ℕ) → RowsAreSmall (map (leveled_row choice n rows) places)
  small_rows [] = tt
  small_rows (a ∷ places) = (small_row a (range_with_len 0 n), small_rows places)

  pub small : RowsAreSmall (leveled choice n rows)
  small = small_rows (range_with_len 0 n)
