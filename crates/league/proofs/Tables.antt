-- What the tests of a table of distances leave true of it.
use Rattle.std.proofs.Common.{◌≡◌, ℕ, zero, suc, ◌<◌, ◌≤◌, ◌%◌, ◌&&◌, ◌==◌, List, [], ◌∷◌, length, get_or, true, nat_le}
use Rattle.std.proofs.Common.{refl, sym, ◌∙◌, inl, inr, arith}
use Rattle.std.proofs.lemmas.Bool.{and_parts, cases_lt, eqb-true, leb-true}
use Rattle.std.proofs.lemmas.List.{get_or_past}
use Rattle.std.specs.List.{list_all, AllByRecursion}
use Rattle.league.specs.Checks.{distance_of, is_team_count, has_columns, is_square, are_in_range, has_zero_diagonal}
use Rattle.league.specs.Checks.{is_mirrored_at, is_symmetric, IsDistanceTable}
use Rattle.league.specs.Limits.{min_teams, max_teams, max_distance}
use Rattle.sets.proofs.ForCallers.{all_below_passes}

abbrev pub HasColumns : ℕ → List (List ℕ) → Type 0
HasColumns n = AllByRecursion (λ row. length row ≡ n)

columns : (n : ℕ) (table : List (List ℕ)) → has_columns n table ≡ true → HasColumns n table
columns n [] h = tt
columns n (row ∷ table) h =
    let p = and_parts (length row == n) (has_columns n table) h in (eqb-true (length row) n p.0, columns n table p.1)

length-is_square : (n : ℕ) (table : List (List ℕ)) → is_square n table ≡ true → length table ≡ n
length-is_square n table h = eqb-true (length table) n (and_parts (length table == n) (has_columns n table) h).0

columns-is_square : (n : ℕ) (table : List (List ℕ)) → is_square n table ≡ true → HasColumns n table
columns-is_square n table h = columns n table (and_parts (length table == n) (has_columns n table) h).1

number_near : (row : List ℕ) (b : ℕ) → list_all (λ x. nat_le x max_distance) row ≡ true → get_or row b 0 ≤ max_distance
number_near [] b h = omega arith
number_near (x ∷ row) zero h =
    leb-true x max_distance (and_parts (nat_le x max_distance) (list_all (λ y. nat_le y max_distance) row) h).0
number_near (x ∷ row) (suc b) h =
    number_near row b (and_parts (nat_le x max_distance) (list_all (λ y. nat_le y max_distance) row) h).1

near : (table : List (List ℕ)) (a b : ℕ) → are_in_range table ≡ true → distance_of table a b ≤ max_distance
near [] a b h = number_near [] b refl
near (row ∷ table) zero b h =
    number_near row b (and_parts (list_all (λ x. nat_le x max_distance) row) (are_in_range table) h).0
near (row ∷ table) (suc a) b h =
    near table a b (and_parts (list_all (λ x. nat_le x max_distance) row) (are_in_range table) h).1

past_row : (table : List (List ℕ)) (a b : ℕ) → length table ≤ a → distance_of table a b ≡ 0
past_row table a b past = rw (get_or_past table a [] past)

past_column : (n : ℕ) (table : List (List ℕ)) (a b : ℕ) → HasColumns n table → n ≤ b → distance_of table a b ≡ 0
past_column n [] a b h past = refl
past_column n (row ∷ table) zero b h past = get_or_past row b 0 (omega (arith, h.0))
past_column n (row ∷ table) (suc a) b h past = past_column n table a b h.1 past

-- a table is one for n teams where its numbers are right within it: beyond it they are 0
pub IsDistanceTable-from_within : (n : ℕ) (table : List (List ℕ)) → is_team_count n ≡ true → length table ≡ n
    → HasColumns n table
    → ((a b : ℕ) → a < n → b < n → distance_of table a b ≤ max_distance)
    → ((a : ℕ) → a < n → distance_of table a a ≡ 0)
    → ((a b : ℕ) → a < n → b < n → distance_of table a b ≡ distance_of table b a)
    → IsDistanceTable n table
IsDistanceTable-from_within n table counted rows columns near diagonal symmetric =
    let count = and_parts (n % 2 == 0) (nat_le min_teams n && nat_le n max_teams) counted in
    let bounds = and_parts (nat_le min_teams n) (nat_le n max_teams) count.1 in
    record {
      even = eqb-true (n % 2) 0 count.0;
      least = leb-true min_teams n bounds.0;
      most = leb-true n max_teams bounds.1;
      rows = rows;
      columns = columns;
      near = λ a b. within_or_past a b (λ x. x ≤ max_distance) (near a b) (λ past. rw past (omega arith));
      diagonal = λ a. within_or_past a a (λ x. x ≡ 0) (λ below _. diagonal a below) (λ past. past);
      symmetric = λ a b. within_or_past a b (λ x. x ≡ distance_of table b a) (symmetric a b)
          (λ past. past ∙ sym (within_or_past b a (λ x. x ≡ 0) (λ b_below a_below. sym (symmetric a b a_below b_below) ∙ past)
          (λ zero. zero)));
    }
  where
    within_or_past : (a b : ℕ) (P : ℕ → Type 0) → (a < n → b < n → P (distance_of table a b))
        → (distance_of table a b ≡ 0 → P (distance_of table a b)) → P (distance_of table a b)
    within_or_past a b P within past = elim (cases_lt a n) [
      | inr a_past ↦ past (past_row table a b (omega (arith, rows)))
      | inl a_below ↦ elim (cases_lt b n) [
        | inr b_past ↦ past (past_column n table a b columns b_past)
        | inl b_below ↦ within a_below b_below
      ]
    ]

-- a table that passed the tests
pub IsDistanceTable-from_tests : (n : ℕ) (table : List (List ℕ)) → is_team_count n ≡ true → is_square n table ≡ true
    → are_in_range table ≡ true
    → has_zero_diagonal n table ≡ true → is_symmetric n table ≡ true → IsDistanceTable n table
unfolding has_zero_diagonal is_symmetric is_mirrored_at
IsDistanceTable-from_tests n table counted square ranged zeroed mirrored =
    IsDistanceTable-from_within n table counted (length-is_square n table square) (columns-is_square n table square)
    (λ a b _ _. near table a b ranged)
    (λ a below. eqb-true (distance_of table a a) 0 (all_below_passes n (λ k. distance_of table k k == 0) zeroed a below))
    (λ a b a_below b_below. eqb-true (distance_of table a b) (distance_of table b a)
    (all_below_passes n (λ k. distance_of table a k == distance_of table k a)
    (all_below_passes n (is_mirrored_at table n) mirrored a a_below) b b_below))
