-- The text that is made of a table is read as its league.
use Rattle.std.proofs.Common.{◌≡◌, ℕ, ◌+◌, ◌≤◌, ◌<◌, ◌^◌, ◌&&◌, Bool, true, false, List, [], ◌∷◌, length, Option, Some, None, Result, Ok, Err, refl, ap, subst, sym, inl, inr, arith, IfSome, IsUtf8}
use Rattle.std.specs.Prelude.{⊤}
use Rattle.std.specs.List.{list_all}
use Rattle.std.specs.Str.Lines.{lines}
use Rattle.std.proofs.lemmas.Bool.{and_from, cases_Bool}
use Rattle.std.proofs.lemmas.Str.{is_utf8-from_IsUtf8}
use Rattle.league.specs.Checks.{is_team_count}
use Rattle.league_json.specs.League.{league_of}
use Rattle.league.specs.Names.{is_team_name}
use Rattle.schedule_csv.specs.Cells.{cells, is_empty_row}
use Rattle.schedule_csv.specs.Head.{without_order_mark}
use Rattle.league_csv.specs.declared.fault.DistanceFault.{DistanceFault}
use Rattle.league_csv.specs.declared.fault.DistanceFault.TheVariants.{TeamCount}
use Rattle.choices.specs.declared.symmetry.Symmetry.{Symmetry}
use Rattle.league_csv.specs.League.{agreed, AreSettings, distances_for, league_for, table_for}
use Rattle.league_csv.specs.LeagueText.{Said, league_text}
use Rattle.league_csv.specs.Names.{names_of}
use Rattle.league_csv.specs.Reading.{unless}
use Rattle.league_csv.specs.Rows.{rows_from}
use Rattle.league_csv.specs.Table.{TableData, has_names, separator_of, table_below, table_from, table_of, table_with}
use Rattle.league_csv.proofs.Behind.{bound, refused}
use Rattle.league_csv.proofs.Facts.{AreNames, AreRows, all_named, rows_are_read}
use Rattle.league_csv.proofs.Leagues.{league_is, value_is}
use Rattle.league_csv.proofs.ReadBack.{AreSmallSettings, read_whole}
use Rattle.league_csv.proofs.Sound.{small, sound}
use Rattle.league_csv.proofs.Utf8.{text_utf8}

-- what is true of a table that was read
record IsTable (table : TableData) : Type 0 where
  names : AreNames table.names
  count : is_team_count (length table.names) ≡ true
  rows : AreRows 0 table.rows

abbrev table_in : TableData → Result TableData DistanceFault → TableData
table_in other (Ok table) = table
table_in other (Err fault) = other

abbrev as_read : TableData → Result TableData DistanceFault
as_read table = Ok table

same_table : (a b : TableData) → as_read a ≡ as_read b → a ≡ b
same_table a b is = ap (table_in a) is

counted : (test : Bool) (done : ⊤) → unless test TeamCount ≡ Ok done → test ≡ true
counted true done is = refl
counted false done is = absurd (refused TeamCount done is)

with_read : (in_column : Bool) (separator line : ℕ) (first : List ℕ) (rows : List (List ℕ)) (table : TableData)
    → table_with in_column separator line first rows ≡ Ok table → IsTable table
unfolding table_with
with_read in_column separator line first rows table is =
    let names = bound (names_of line in_column (cells separator first)) _ table is in
    let count = bound (unless (is_team_count (length names.0)) TeamCount) _ table names.2 in
    let measured = bound (rows_from separator in_column names.0 (line + 1) 0 rows) _ table count.2 in
    subst IsTable (same_table (record { names = names.0; rows = measured.0 }) table measured.2) (record {
      names = all_named line in_column (cells separator first) names.0 names.1;
      count = counted (is_team_count (length names.0)) count.0 count.1;
      rows = rows_are_read separator in_column names.0 (line + 1) 0 rows measured.0 measured.1;
    })

from_read : (line : ℕ) (rows : List (List ℕ)) (table : TableData) → table_from line rows ≡ Ok table → IsTable table
from_read line [] table is = absurd (refused _ table is)
from_read line (row ∷ rows) table is = elim (cases_Bool (is_empty_row (separator_of row) row)) [
  | inl empty ↦ from_read (line + 1) rows table (rw empty at is)
  | inr full ↦ with_read (has_names (separator_of row) rows) (separator_of row) line row rows table (rw full at is)
]

for_read : (choice : Option Symmetry) (text : List ℕ) (table : TableData) → table_for choice text ≡ Ok table → IsTable table
unfolding table_for
for_read choice text table is =
    let read = bound (table_of text) _ table is in
    let both = bound (agreed choice (length read.0.names) read.0.rows) _ table read.2 in
    subst IsTable (same_table read.0 table both.2) (from_read 1 (lines (without_order_mark text)) read.0 read.1)

names_pass : (names : List (List ℕ)) → AreNames names → list_all is_team_name names ≡ true
names_pass [] are = refl
names_pass (name ∷ names) are = and_from (is_team_name name) (list_all is_team_name names) are.0 (names_pass names are.2)

small_terms : (title : Option (List ℕ)) (at_most hard_weight : Option ℕ)
    → AreSettings (record { title = title; at_most = at_most; hard_weight = hard_weight })
    → AreSmallSettings (record { title = title; at_most = at_most; hard_weight = hard_weight })
small_terms title None None are = (tt, tt)
small_terms title (Some n) None are = (omega (arith, are.at_most.1), tt)
small_terms title None (Some w) are = (tt, omega (arith, are.hard_weight.1))
small_terms title (Some n) (Some w) are = (omega (arith, are.at_most.1), omega (arith, are.hard_weight.1))

pub reads : (choice : Option Symmetry) (said : Said) (text : List ℕ) (table : TableData) → AreSettings said → IfSome said.title IsUtf8
    → table_for choice text ≡ Ok table
    → league_of (league_text table.names (distances_for choice table) said) ≡ Ok (league_for choice said table)
unfolding league_of
reads choice said text table are titled is =
    let facts = for_read choice text table is in
    let n = length table.names in
    let distances = distances_for choice table in
    let few = small choice n table.rows facts.rows in
    let few_terms = small_terms said.title said.at_most said.hard_weight are in
    let utf8 = is_utf8-from_IsUtf8 _ (text_utf8 table.names distances said facts.names few few_terms titled) in
    rw (
      utf8,
      read_whole table.names distances said few few_terms,
      value_is table.names distances said.title said.at_most said.hard_weight few few_terms.0 few_terms.1,
    ) (league_is table.names distances said.title said.at_most said.hard_weight are (names_pass table.names facts.names)
    (sound choice n table.rows facts.rows facts.count))
