-- A league's text is UTF-8.
use Rattle.std.proofs.Common.{ℕ, ◌<◌, ◌^◌, Bool, true, false, List, [], ◌∷◌, ◌++◌, codes, decimal, Option, Some, None, refl, IfSome, IsUtf8}
use Rattle.std.proofs.lemmas.Fmt.{IsAscii-decimal}
use Rattle.std.proofs.lemmas.Str.{IsUtf8-append, IsUtf8-nil, IsUtf8-from_ascii, IsUtf8-from_is_utf8}
use Rattle.json.specs.Print.{quoted}
use Rattle.json.proofs.Printed.Utf8.{IsUtf8-quoted, IsUtf8-are_ascii}
use Rattle.league_csv.specs.LeagueText.{Said, names_text, numbers_text, row_text, rows_text, setting_text, title_text, league_text}
use Rattle.league_csv.proofs.Facts.{AreNames}
use Rattle.league_csv.proofs.Lexed.{AreSmall, RowsAreSmall}
use Rattle.league_csv.proofs.ReadBack.{AreSmallSettings}

decimal_utf8 : (n : ℕ) → n < 2 ^ 64 → IsUtf8 (decimal n)
decimal_utf8 n small = IsUtf8-from_ascii (decimal n) (IsAscii-decimal n small)

names_utf8 : (later : Bool) (names : List (List ℕ)) → AreNames names → IsUtf8 (names_text later names)
names_utf8 later [] are = IsUtf8-nil
names_utf8 true (name ∷ names) are =
    IsUtf8-append (codes ", ") (quoted name ++ names_text true names) (IsUtf8-are_ascii _ refl)
    (IsUtf8-append (quoted name) (names_text true names) (IsUtf8-quoted name (IsUtf8-from_is_utf8 name are.1)) (names_utf8 true names are.2))
names_utf8 false (name ∷ names) are =
    IsUtf8-append (quoted name) (names_text true names) (IsUtf8-quoted name (IsUtf8-from_is_utf8 name are.1)) (names_utf8 true names are.2)

numbers_utf8 : (later : Bool) (ns : List ℕ) → AreSmall ns → IsUtf8 (numbers_text later ns)
numbers_utf8 later [] small = IsUtf8-nil
numbers_utf8 true (n ∷ ns) small =
    IsUtf8-append (codes ", ") (decimal n ++ numbers_text true ns) (IsUtf8-are_ascii _ refl)
    (IsUtf8-append (decimal n) (numbers_text true ns) (decimal_utf8 n small.0) (numbers_utf8 true ns small.1))
numbers_utf8 false (n ∷ ns) small = IsUtf8-append (decimal n) (numbers_text true ns) (decimal_utf8 n small.0) (numbers_utf8 true ns small.1)

row_utf8 : (row : List ℕ) → AreSmall row → IsUtf8 (row_text row)
row_utf8 row small =
    IsUtf8-append (codes "\n    [") (numbers_text false row ++ codes "]") (IsUtf8-are_ascii _ refl)
    (IsUtf8-append (numbers_text false row) (codes "]") (numbers_utf8 false row small) (IsUtf8-are_ascii _ refl))

rows_utf8 : (later : Bool) (rows : List (List ℕ)) → RowsAreSmall rows → IsUtf8 (rows_text later rows)
rows_utf8 later [] small = IsUtf8-nil
rows_utf8 true (row ∷ rows) small =
    IsUtf8-append (codes ",") (row_text row ++ rows_text true rows) (IsUtf8-are_ascii _ refl)
    (IsUtf8-append (row_text row) (rows_text true rows) (row_utf8 row small.0) (rows_utf8 true rows small.1))
rows_utf8 false (row ∷ rows) small = IsUtf8-append (row_text row) (rows_text true rows) (row_utf8 row small.0) (rows_utf8 true rows small.1)

setting_utf8 : (name : List ℕ) (term : Option ℕ) → IsUtf8 name → IfSome term (λ n. n < 2 ^ 64) → IsUtf8 (setting_text name term)
setting_utf8 name None ascii small = IsUtf8-nil
setting_utf8 name (Some n) ascii small = IsUtf8-append name (decimal n) ascii (decimal_utf8 n small)

title_utf8 : (title : Option (List ℕ)) → IfSome title IsUtf8 → IsUtf8 (title_text title)
title_utf8 None utf8 = IsUtf8-nil
title_utf8 (Some title) utf8 = IsUtf8-append (codes ",\n  \"name\": ") (quoted title) (IsUtf8-are_ascii _ refl) (IsUtf8-quoted title utf8)

pub text_utf8 : (names distances : List (List ℕ)) (said : Said) → AreNames names → RowsAreSmall distances → AreSmallSettings said
    → IfSome said.title IsUtf8 → IsUtf8 (league_text names distances said)
unfolding league_text
text_utf8 names distances said are small small_terms titled =
    IsUtf8-append _ _ (IsUtf8-are_ascii (codes "{\n  \"format\": 3") refl) (IsUtf8-append _ _ (title_utf8 said.title titled)
    (IsUtf8-append _ _ (IsUtf8-are_ascii (codes ",\n  \"teams\": [") refl) (IsUtf8-append _ _ (names_utf8 false names are)
    (IsUtf8-append _ _ (IsUtf8-are_ascii (codes "],\n  \"distances\": [") refl) (IsUtf8-append _ _ (rows_utf8 false distances small)
    (IsUtf8-append _ _ (IsUtf8-are_ascii (codes "\n  ]") refl)
    (IsUtf8-append _ _ (setting_utf8 (codes ",\n  \"at_most\": ") said.at_most (IsUtf8-are_ascii _ refl) small_terms.0)
    (IsUtf8-append _ _ (setting_utf8 (codes ",\n  \"hard_weight\": ") said.hard_weight (IsUtf8-are_ascii _ refl) small_terms.1)
    (IsUtf8-are_ascii (codes "\n}\n") refl)))))))))
