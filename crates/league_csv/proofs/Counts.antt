-- How many distances of a table can be rounded.
use Rattle.std.proofs.Common.{◌≡◌, ℕ, ◌+◌, ◌*◌, ◌≤◌, ◌==◌, Bool, true, false, List, [], ◌∷◌, length, Ok, cond, inl, inr, arith, sym}
use Rattle.std.proofs.lemmas.Bool.{and_parts, cases_Bool, eqb-true, leb-true}
use Rattle.std.specs.Prelude.{◌%◌, ◌&&◌, nat_le, slice_index_or}
use Rattle.std.specs.Str.{bytes_eq}
use Rattle.league.specs.Checks.{is_team_count}
use Rattle.league.specs.Limits.{max_teams, min_teams}
use Rattle.schedule_csv.specs.Cells.{cells, is_empty_row}
use Rattle.league_csv.specs.declared.measures.Measure.{Measure}
use Rattle.league_csv.specs.League.{rounded_in, rounded_in_row}
use Rattle.league_csv.specs.Measures.{measure_between}
use Rattle.league_csv.specs.Names.{name_in}
use Rattle.league_csv.specs.Reading.{behind, placed}
use Rattle.league_csv.specs.Rows.{first_column, measures_from, named_row, row_of, rows_from}
use Rattle.league_csv.proofs.Behind.{bound, read_behind, refused, same_list}

pub most_teams : (n : ℕ) → is_team_count n ≡ true → n ≤ 40
most_teams n counted =
    leb-true n max_teams (and_parts (nat_le min_teams n) (nat_le n max_teams)
    (and_parts (n % 2 == 0) (nat_le min_teams n && nat_le n max_teams) counted).1).1

at_most_one : (is_rounded : Bool) → (cond is_rounded 1 0) ≤ 1
at_most_one true = omega arith
at_most_one false = omega arith

module _ (separator : ℕ) (in_column : Bool) (names : List (List ℕ)) where
  few_from : (line team other : ℕ) (cells : List (List ℕ)) (ms : List Measure)
      → measures_from separator in_column names line team other cells ≡ Ok ms → rounded_in_row ms + other ≤ length names
  few_from line team other [] ms is = elim (cases_Bool (other == length names)) [
    | inl all ↦ rw (sym (same_list [] ms (rw all at is))) (omega (arith, eqb-true other (length names) all))
    | inr some ↦ absurd (refused _ ms (rw some at is))
  ]
  few_from line team other (cell ∷ cells) ms is = elim (cases_Bool (other == length names)) [
    | inl all ↦ absurd (refused _ ms (rw all at is))
    | inr some ↦
        let read = bound (placed line (first_column in_column + other) (measure_between separator team other cell)) _ ms (rw some at is) in
        let more = read_behind (read.0 ∷ []) ms (measures_from separator in_column names line team (other + 1) cells) read.2 in
        rw (sym more.2) (omega (arith, at_most_one read.0.is_rounded, few_from line team (other + 1) cells more.0 more.1))
  ]

few_of : (separator : ℕ) (in_column : Bool) (names : List (List ℕ)) (line team : ℕ) (cells : List (List ℕ)) (ms : List Measure)
    → row_of separator in_column names line team cells ≡ Ok ms → rounded_in_row ms ≤ length names
few_of separator true names line team [] ms is = absurd (refused _ ms is)
few_of separator true names line team (cell ∷ cells) ms is = elim (cases_Bool (bytes_eq (name_in cell) (slice_index_or names team []))) [
  | inl same ↦ let few = few_from separator true names line team 0 cells ms (rw same at is) in omega (arith, few)
  | inr other ↦ absurd (refused _ ms (rw other at is))
]
few_of separator false names line team cells ms is = let few = few_from separator false names line team 0 cells ms is in omega (arith, few)

module _ (separator : ℕ) (in_column : Bool) (names : List (List ℕ)) where
  -- each row below has no more than there are names
  pub few_below : (line team : ℕ) (texts : List (List ℕ)) (rows : List (List Measure)) → length names ≤ 40
      → rows_from separator in_column names line team texts ≡ Ok rows → rounded_in rows + 40 * team ≤ 40 * length names
  few_below line team [] rows most is = elim (cases_Bool (team == length names)) [
    | inl all ↦ rw (sym (same_list [] rows (rw all at is))) (omega (arith, eqb-true team (length names) all))
    | inr some ↦ absurd (refused _ rows (rw some at is))
  ]
  few_below line team (text ∷ texts) rows most is = elim (cases_Bool (is_empty_row separator text)) [
    | inl empty ↦ few_below (line + 1) team texts rows most (rw empty at is)
    | inr full ↦ elim (cases_Bool (team == length names)) [
      | inl all ↦ absurd (refused _ rows (rw (full, all) at is))
      | inr some ↦
          let read = bound (row_of separator in_column names line team (cells separator text)) _ rows (rw (full, some) at is) in
          let more = read_behind (read.0 ∷ []) rows (rows_from separator in_column names (line + 1) (team + 1) texts) read.2 in
          rw (sym more.2) (omega (arith, few_of separator in_column names line team (cells separator text) read.0 read.1, few_below (line + 1) (team + 1) texts more.0 most more.1))
    ]
  ]
