-- What is true of the names and distances that were read.
use Rattle.std.proofs.Common.{◌≡◌, ℕ, suc, zero, ◌+◌, ◌≤◌, ◌&&◌, ◌==◌, nat_le, Bool, true, false, List, [], ◌∷◌, length, Option, Some, None, Result, Ok, Err, refl, ap, ◌∙◌, subst, sym, inl, inr, arith, IsUtf8}
use Rattle.std.specs.Prelude.{⊤, drop, take, slice_get, slice_index_or, if◌then◌else◌}
use Rattle.std.specs.List.{list_all}
use Rattle.std.specs.Char.{is_ascii_digit}
use Rattle.std.specs.Str.{bytes_eq, is_utf8}
use Rattle.std.proofs.lemmas.Bool.{and_from, and_parts, cases_Bool, eq-eqb, eqb-true, false≢true, leb-true}
use Rattle.league.specs.Names.{is_team_name}
use Rattle.league.specs.Limits.{max_distance}
use Rattle.text_lines.specs.Number.{number_of}
use Rattle.schedule_csv.specs.Cells.{cells, is_empty_row, unmarked}
use Rattle.league_csv.specs.declared.fault.DistanceCellFault.{DistanceCellFault}
use Rattle.league_csv.specs.declared.fault.DistanceFault.{DistanceFault}
use Rattle.league_csv.specs.declared.measures.Measure.{Measure}
use Rattle.league_csv.specs.Measures.{decimal_measure, measure_between, near, number_measure, or_not_zero, own_measure, point_of, text_measure}
use Rattle.league_csv.specs.Names.{league_name, name_in, names_from, names_of}
use Rattle.league_csv.specs.Reading.{behind, placed}
use Rattle.league_csv.specs.Rows.{first_column, measures_from, named_row, row_of, rows_from}
use Rattle.league_csv.specs.Sides.{distance_in, from_to}
use Rattle.league_csv.proofs.Behind.{bound, read_behind, refused, same_list}

-- ---- names

abbrev pub AreNames : List (List ℕ) → Type 0
AreNames [] = ⊤
AreNames (name ∷ names) = (is_team_name name ≡ true) × (is_utf8 name ≡ true) × AreNames names

named : (line column : ℕ) (name read : List ℕ) → placed line column (league_name name) ≡ Ok read
    → (is_team_name read ≡ true) × (is_utf8 read ≡ true)
named line column name read is = elim (cases_Bool (is_team_name name && is_utf8 name)) [
  | inl passes ↦
      let both = and_parts (is_team_name name) (is_utf8 name) passes in
      let same = same_list name read (rw passes at is) in
      (rw (sym same) both.0, rw (sym same) both.1)
  | inr fails ↦ absurd (refused _ read (rw fails at is))
]

pub names_named : (line column : ℕ) (cells names : List (List ℕ)) → names_from line column cells ≡ Ok names → AreNames names
names_named line column [] names is = subst AreNames (same_list [] names is) tt
names_named line column (cell ∷ cells) names is =
    let first = bound (placed line column (league_name (name_in cell))) _ names is in
    let more = read_behind (first.0 ∷ []) names (names_from line (column + 1) cells) first.2 in
    let name = named line column (name_in cell) first.0 first.1 in
    subst AreNames more.2 (name.0, name.1, names_named line (column + 1) cells more.0 more.1)

pub all_named : (line : ℕ) (has_corner : Bool) (cells names : List (List ℕ)) → names_of line has_corner cells ≡ Ok names → AreNames names
all_named line true cells names is = names_named line 1 (drop 1 cells) names is
all_named line false cells names is = names_named line 0 cells names is

-- ---- distances

abbrev measure_in : Measure → Result Measure DistanceCellFault → Measure
measure_in other (Ok m) = m
measure_in other (Err why) = other

abbrev as_read : Measure → Result Measure DistanceCellFault
as_read m = Ok m

same_measure : (a b : Measure) → as_read a ≡ as_read b → a ≡ b
same_measure a b is = ap (measure_in a) is

no_measure : (why : DistanceCellFault) (m : Measure) → Err why ≡ as_read m → ⊥
no_measure why m is = cc

near_read : (distance : ℕ) (is_rounded : Bool) (m : Measure) → near distance is_rounded ≡ Ok m → m.distance ≤ max_distance
near_read distance is_rounded m is = elim (cases_Bool (nat_le distance max_distance)) [
  | inl within ↦
      subst (λ x. x.distance ≤ max_distance) (same_measure (record { distance = distance; is_rounded = is_rounded }) m (rw within at is))
      (leb-true distance max_distance within)
  | inr past ↦ absurd (no_measure _ m (rw past at is))
]

decimal_read : (whole : Option ℕ) (digits : List ℕ) (m : Measure) → decimal_measure whole digits ≡ Ok m → m.distance ≤ max_distance
decimal_read None digits m is = absurd (no_measure _ m is)
decimal_read (Some whole) digits m is = elim (cases_Bool (list_all is_ascii_digit digits)) [
  | inl all ↦ near_read _ _ m (rw all at is)
  | inr other ↦ absurd (no_measure _ m (rw other at is))
]

text_read : (separator : ℕ) (text : List ℕ) (m : Measure) → text_measure separator text ≡ Ok m → m.distance ≤ max_distance
text_read separator text m is =
    decimal_read (number_of (take (point_of separator text) text)) (drop (point_of separator text + 1) text) m is

not_zero_read : (read : Result Measure DistanceCellFault) (m : Measure) → or_not_zero read ≡ Ok m → m.distance ≡ 0
not_zero_read (Err why) m is = absurd (no_measure _ m is)
not_zero_read (Ok own) m is = elim (cases_Bool (own.distance == 0)) [
  | inl none ↦ subst (λ x. x.distance ≡ 0) (same_measure own m (rw none at is)) (eqb-true own.distance 0 none)
  | inr some ↦ absurd (no_measure _ m (rw some at is))
]

own_read : (separator : ℕ) (cell : List ℕ) (m : Measure) → own_measure separator cell ≡ Ok m → m.distance ≡ 0
own_read separator cell m is = elim (cases_Bool (length (unmarked cell) == 0)) [
  | inl empty ↦ subst (λ x. x.distance ≡ 0) (same_measure (record { distance = 0; is_rounded = false }) m (rw empty at is)) refl
  | inr full ↦ not_zero_read (number_measure separator cell) m (rw full at is)
]

-- a distance in range, which is 0 from a team to itself
abbrev pub IsMeasure : ℕ → ℕ → Measure → Type 0
IsMeasure team other m = (m.distance ≤ max_distance) × (team ≡ other → m.distance ≡ 0)

between_read : (separator team other : ℕ) (cell : List ℕ) (m : Measure) → measure_between separator team other cell ≡ Ok m → IsMeasure team other m
between_read separator team other cell m is = elim (cases_Bool (team == other)) [
  | inl same ↦ let own = own_read separator cell m (rw same at is) in (omega (arith, own), λ e. own)
  | inr apart ↦ (text_read separator (unmarked cell) m (rw apart at is), λ e. absurd (false≢true (sym apart ∙ eq-eqb team other e)))
]

abbrev measure_at : Measure → Result Measure DistanceFault → Measure
measure_at other (Ok m) = m
measure_at other (Err fault) = other

placed_read : (line column : ℕ) (read : Result Measure DistanceCellFault) (m : Measure) → placed line column read ≡ Ok m → read ≡ Ok m
placed_read line column (Ok x) m is = ap as_read (ap (measure_at x) is)
placed_read line column (Err why) m is = absurd (refused _ m is)

abbrev pub IsRow : ℕ → ℕ → List Measure → Type 0
IsRow team other [] = ⊤
IsRow team other (m ∷ ms) = IsMeasure team other m × IsRow team (other + 1) ms

abbrev pub AreRows : ℕ → List (List Measure) → Type 0
AreRows team [] = ⊤
AreRows team (row ∷ rows) = IsRow team 0 row × AreRows (team + 1) rows

module _ (separator : ℕ) (in_column : Bool) (names : List (List ℕ)) where
  measures_read : (line team other : ℕ) (cells : List (List ℕ)) (ms : List Measure)
      → measures_from separator in_column names line team other cells ≡ Ok ms → IsRow team other ms
  measures_read line team other [] ms is = elim (cases_Bool (other == length names)) [
    | inl all ↦ subst (IsRow team other) (same_list [] ms (rw all at is)) tt
    | inr some ↦ absurd (refused _ ms (rw some at is))
  ]
  measures_read line team other (cell ∷ cells) ms is = elim (cases_Bool (other == length names)) [
    | inl all ↦ absurd (refused _ ms (rw all at is))
    | inr some ↦
        let read = bound (placed line (first_column in_column + other) (measure_between separator team other cell)) _ ms (rw some at is) in
        let more = read_behind (read.0 ∷ []) ms (measures_from separator in_column names line team (other + 1) cells) read.2 in
        let first = between_read separator team other cell read.0 (placed_read line (first_column in_column + other) _ read.0 read.1) in
        subst (IsRow team other) more.2 (first, measures_read line team (other + 1) cells more.0 more.1)
  ]

row_read : (separator : ℕ) (in_column : Bool) (names : List (List ℕ)) (line team : ℕ) (cells : List (List ℕ)) (ms : List Measure)
    → row_of separator in_column names line team cells ≡ Ok ms → IsRow team 0 ms
row_read separator true names line team [] ms is = absurd (refused _ ms is)
row_read separator true names line team (cell ∷ cells) ms is = elim (cases_Bool (bytes_eq (name_in cell) (slice_index_or names team []))) [
  | inl same ↦ measures_read separator true names line team 0 cells ms (rw same at is)
  | inr other ↦ absurd (refused _ ms (rw other at is))
]
row_read separator false names line team cells ms is = measures_read separator false names line team 0 cells ms is

module _ (separator : ℕ) (in_column : Bool) (names : List (List ℕ)) where
  pub rows_are_read : (line team : ℕ) (texts : List (List ℕ)) (rows : List (List Measure))
      → rows_from separator in_column names line team texts ≡ Ok rows → AreRows team rows
  rows_are_read line team [] rows is = elim (cases_Bool (team == length names)) [
    | inl all ↦ subst (AreRows team) (same_list [] rows (rw all at is)) tt
    | inr some ↦ absurd (refused _ rows (rw some at is))
  ]
  rows_are_read line team (text ∷ texts) rows is = elim (cases_Bool (is_empty_row separator text)) [
    | inl empty ↦ rows_are_read (line + 1) team texts rows (rw empty at is)
    | inr full ↦ elim (cases_Bool (team == length names)) [
      | inl all ↦ absurd (refused _ rows (rw (full, all) at is))
      | inr some ↦
          let read = bound (row_of separator in_column names line team (cells separator text)) _ rows (rw (full, some) at is) in
          let more = read_behind (read.0 ∷ []) rows (rows_from separator in_column names (line + 1) (team + 1) texts) read.2 in
          subst (AreRows team) more.2
          (row_read separator in_column names line team (cells separator text) read.0 read.1, rows_are_read (line + 1) (team + 1) texts more.0 more.1)
    ]
  ]

-- ---- at a place

row_near : (team other : ℕ) (ms : List Measure) → IsRow team other ms → (k : ℕ) → distance_in (slice_get ms k) ≤ max_distance
row_near team other [] is k = omega arith
row_near team other (m ∷ ms) is zero = is.0.0
row_near team other (m ∷ ms) is (suc k) = row_near team (other + 1) ms is.1 k

row_own : (team other : ℕ) (ms : List Measure) → IsRow team other ms → (k : ℕ) → team ≡ other + k → distance_in (slice_get ms k) ≡ 0
row_own team other [] is k same = refl
row_own team other (m ∷ ms) is zero same = is.0.1 (omega (arith, same))
row_own team other (m ∷ ms) is (suc k) same = row_own team (other + 1) ms is.1 k (omega (arith, same))

pub rows_near : (team : ℕ) (rows : List (List Measure)) → AreRows team rows → (a b : ℕ) → from_to rows a b ≤ max_distance
rows_near team [] is a b = omega arith
rows_near team (row ∷ rows) is zero b = row_near team 0 row is.0 b
rows_near team (row ∷ rows) is (suc a) b = rows_near (team + 1) rows is.1 a b

rows_own_from : (team : ℕ) (rows : List (List Measure)) → AreRows team rows → (a b : ℕ) → b ≡ team + a → from_to rows a b ≡ 0
rows_own_from team [] is a b same = refl
rows_own_from team (row ∷ rows) is zero b same = row_own team 0 row is.0 b (omega (arith, same))
rows_own_from team (row ∷ rows) is (suc a) b same = rows_own_from (team + 1) rows is.1 a b (omega (arith, same))

pub rows_own : (rows : List (List Measure)) → AreRows 0 rows → (a : ℕ) → from_to rows a a ≡ 0
rows_own rows is a = rows_own_from 0 rows is a a (omega arith)
