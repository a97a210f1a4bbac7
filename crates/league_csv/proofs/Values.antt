-- The league that the value of a text is.
use Rattle.std.proofs.Common.{◌≡◌, ℕ, ◌≤◌, ◌<◌, ◌^◌, ◌&&◌, nat_le, true, false, List, [], ◌∷◌, codes, decimal, length, Option, Some, None, option_map, option_and_then, unwrap_or, Ok, refl, ap, ◌∙◌, arith, IfSome}
use Rattle.std.specs.Fmt.{digits}
use Rattle.std.specs.List.{list_all}
use Rattle.std.proofs.lemmas.Bool.{and_parts, and_from, le-leb}
use Rattle.json.specs.Json.{Json}
use Rattle.serde_json.specs.Data.{Data, Items, Members, unsigned, number, string, array, object, no_items, item, no_members, member, put}
use Rattle.serde_json.specs.Read.{of_json, of_items, number_of}
use Rattle.serde_json.proofs.Numbers.{number_of-decimal}
use Rattle.league_json.specs.Json.{all_items}
use Rattle.league.specs.Limits.{max_name}
use Rattle.league.specs.Names.{is_team_name}
use Rattle.league_json.specs.LeagueMembers.{text_within, team_names, distance_row, distance_rows}
use Rattle.league_csv.proofs.Lexed.{AreSmall, RowsAreSmall}
use Rattle.league_csv.proofs.Tokens.{name_items, number_items, row_items}

abbrev pub name_data : List (List ℕ) → Items
name_data [] = no_items
name_data (name ∷ names) = item (string name) (name_data names)

abbrev pub number_data : List ℕ → Items
number_data [] = no_items
number_data (n ∷ ns) = item (number (unsigned n)) (number_data ns)

abbrev pub row_data : List (List ℕ) → Items
row_data [] = no_items
row_data (row ∷ rows) = item (array (number_data row)) (row_data rows)

-- ---- of the JSON

pub names_are : (names : List (List ℕ)) → of_items (name_items names) ≡ Some (name_data names)
names_are [] = refl
names_are (name ∷ names) = rw (names_are names) refl

numbers_are : (ns : List ℕ) → AreSmall ns → of_items (number_items ns) ≡ Some (number_data ns)
numbers_are [] small = refl
numbers_are (n ∷ ns) small = rw (number_of-decimal n small.0, numbers_are ns small.1) refl

pub rows_are : (rows : List (List ℕ)) → RowsAreSmall rows → of_items (row_items rows) ≡ Some (row_data rows)
rows_are [] small = refl
rows_are (row ∷ rows) small = rw (numbers_are row small.0, rows_are rows small.1) refl

-- ---- as a league reads it

pub names_read : (names : List (List ℕ)) → list_all is_team_name names ≡ true → all_items (text_within max_name) (name_data names) ≡ Some names
names_read [] pass = refl
names_read (name ∷ names) pass =
    let parts = and_parts (is_team_name name) (list_all is_team_name names) pass in rw (parts.0, names_read names parts.1) refl

numbers_read : (ns : List ℕ) → distance_row (array (number_data ns)) ≡ Some ns
numbers_read [] = refl
numbers_read (n ∷ ns) = rw (numbers_read ns) refl

pub rows_read : (rows : List (List ℕ)) → all_items distance_row (row_data rows) ≡ Some rows
rows_read [] = refl
rows_read (row ∷ rows) = rw (numbers_read row, rows_read rows) refl
