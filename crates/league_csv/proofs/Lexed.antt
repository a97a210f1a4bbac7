-- The lexemes of a league's text.
use Rattle.std.proofs.Common.{◌≡◌, ℕ, ◌<◌, ◌^◌, Bool, true, false, List, [], ◌∷◌, ◌++◌, codes, decimal, Option, Some, None, refl, ap, ◌∙◌, sym, append_assoc}
use Rattle.std.specs.Prelude.{⊤, IfSome}
use Rattle.json.specs.Token as json
use Rattle.json.specs.Word.{ends_word}
use Rattle.json.specs.Lex.{Lexeme, token, comma, colon, lex, between}
use Rattle.json.specs.Print.{escape, quoted}
use Rattle.json.proofs.OnLiterals.{json_on_literals}
use Rattle.json.proofs.Printed.Decimals.{IsNumber-decimal}
use Rattle.json.proofs.Printed.Numbers.{lex-number}
use Rattle.json.proofs.Printed.Strings.{content-escape, lex-escape}
use Rattle.league_csv.specs.LeagueText.{names_text, numbers_text, row_text, rows_text, setting_text, title_text}

-- each number fits 64 bits
abbrev pub AreSmall : List ℕ → Type 0
AreSmall [] = ⊤
AreSmall (n ∷ ns) = (n < 2 ^ 64) × AreSmall ns

abbrev pub RowsAreSmall : List (List ℕ) → Type 0
RowsAreSmall [] = ⊤
RowsAreSmall (row ∷ rows) = AreSmall row × RowsAreSmall rows

-- ---- the lexemes

abbrev pub name_lexeme : List ℕ → Lexeme
name_lexeme name = token (json.string name)

abbrev pub number_lexeme : ℕ → Lexeme
number_lexeme n = token (json.number (decimal n))

abbrev pub comma_if : Bool → List Lexeme
comma_if true = comma ∷ []
comma_if false = []

abbrev pub names_lexemes : Bool → List (List ℕ) → List Lexeme
names_lexemes later [] = []
names_lexemes later (name ∷ names) = comma_if later ++ name_lexeme name ∷ names_lexemes true names

abbrev pub numbers_lexemes : Bool → List ℕ → List Lexeme
numbers_lexemes later [] = []
numbers_lexemes later (n ∷ ns) = comma_if later ++ number_lexeme n ∷ numbers_lexemes true ns

abbrev pub rows_lexemes : Bool → List (List ℕ) → List Lexeme
rows_lexemes later [] = []
rows_lexemes later (row ∷ rows) =
    comma_if later ++ token json.begin_array ∷ (numbers_lexemes false row ++ token json.end_array ∷ rows_lexemes true rows)

-- ---- the texts give them

lex_quoted : (s rest : List ℕ) → lex between (quoted s ++ rest) ≡ name_lexeme s ∷ lex between rest
unfolding lex
lex_quoted s rest = rw (append_assoc (escape s) (34 ∷ []) rest, content-escape s rest, lex-escape s rest) refl

lex_decimal : (n : ℕ) (rest : List ℕ) → n < 2 ^ 64 → ends_word rest ≡ true → lex between (decimal n ++ rest) ≡ number_lexeme n ∷ lex between rest
lex_decimal n rest small ended = lex-number (decimal n) rest (IsNumber-decimal n small) ended

lex_name : (name : List ℕ) (names : List (List ℕ)) (rest : List ℕ)
    → lex between (names_text true names ++ rest) ≡ names_lexemes true names ++ lex between rest
    → lex between ((quoted name ++ names_text true names) ++ rest) ≡ name_lexeme name ∷ (names_lexemes true names ++ lex between rest)
lex_name name names rest more =
    ap (lex between) (append_assoc (quoted name) (names_text true names) rest) ∙ lex_quoted name (names_text true names ++ rest)
    ∙ ap (λ ls. name_lexeme name ∷ ls) more

pub lex_names : (later : Bool) (names : List (List ℕ)) (rest : List ℕ)
    → lex between (names_text later names ++ rest) ≡ names_lexemes later names ++ lex between rest
unfolding lex
lex_names later [] rest = refl
lex_names true (name ∷ names) rest = ap (λ ls. comma ∷ ls) (lex_name name names rest (lex_names true names rest))
lex_names false (name ∷ names) rest = lex_name name names rest (lex_names true names rest)

-- what stands behind a number
numbers_end : (ns rest : List ℕ) → ends_word (numbers_text true ns ++ 93 ∷ rest) ≡ true
numbers_end [] rest = refl
numbers_end (n ∷ ns) rest = refl

pub lex_numbers : (later : Bool) (ns rest : List ℕ) → AreSmall ns
    → lex between (numbers_text later ns ++ 93 ∷ rest) ≡ numbers_lexemes later ns ++ token json.end_array ∷ lex between rest
unfolding lex
lex_numbers later [] rest small = refl
lex_numbers true (n ∷ ns) rest small =
    rw (
      append_assoc (decimal n) (numbers_text true ns) (93 ∷ rest),
      lex_decimal n (numbers_text true ns ++ 93 ∷ rest) small.0 (numbers_end ns rest),
      lex_numbers true ns rest small.1,
    ) refl
lex_numbers false (n ∷ ns) rest small =
    rw (
      append_assoc (decimal n) (numbers_text true ns) (93 ∷ rest),
      lex_decimal n (numbers_text true ns ++ 93 ∷ rest) small.0 (numbers_end ns rest),
      lex_numbers true ns rest small.1,
    ) refl

lex_row : (row rest : List ℕ) → AreSmall row
    → lex between (row_text row ++ rest) ≡ token json.begin_array ∷ (numbers_lexemes false row ++ token json.end_array ∷ lex between rest)
unfolding lex
lex_row row rest small = rw (append_assoc (numbers_text false row) (93 ∷ []) rest, lex_numbers false row rest small) refl

first_row : (row : List ℕ) (rows : List (List ℕ)) (rest : List ℕ) → AreSmall row
    → lex between (rows_text true rows ++ rest) ≡ rows_lexemes true rows ++ lex between rest
    → lex between ((row_text row ++ rows_text true rows) ++ rest)
    ≡ token json.begin_array ∷ ((numbers_lexemes false row ++ token json.end_array ∷ rows_lexemes true rows) ++ lex between rest)
first_row row rows rest small more =
    ap (lex between) (append_assoc (row_text row) (rows_text true rows) rest) ∙ lex_row row (rows_text true rows ++ rest) small
    ∙ ap (λ ls. token json.begin_array ∷ (numbers_lexemes false row ++ token json.end_array ∷ ls)) more
    ∙ ap (λ ls. token json.begin_array ∷ ls) (sym (append_assoc (numbers_lexemes false row) (token json.end_array ∷ rows_lexemes true rows) (lex between rest)))

pub lex_rows : (later : Bool) (rows : List (List ℕ)) (rest : List ℕ) → RowsAreSmall rows
    → lex between (rows_text later rows ++ rest) ≡ rows_lexemes later rows ++ lex between rest
unfolding lex
lex_rows later [] rest small = refl
lex_rows true (row ∷ rows) rest small = ap (λ ls. comma ∷ ls) (first_row row rows rest small.0 (lex_rows true rows rest small.1))
lex_rows false (row ∷ rows) rest small = first_row row rows rest small.0 (lex_rows true rows rest small.1)

abbrev pub title_lexemes : Option (List ℕ) → List Lexeme
title_lexemes None = []
title_lexemes (Some title) = comma ∷ name_lexeme (codes "name") ∷ colon ∷ name_lexeme title ∷ []

pub lex_title : (title : Option (List ℕ)) (rest : List ℕ) → lex between (title_text title ++ rest) ≡ title_lexemes title ++ lex between rest
unfolding json_on_literals
lex_title None rest = refl
lex_title (Some title) rest = ap (λ ls. comma ∷ name_lexeme (codes "name") ∷ colon ∷ ls) (lex_quoted title rest)

abbrev pub setting_lexemes : List ℕ → Option ℕ → List Lexeme
setting_lexemes name None = []
setting_lexemes name (Some n) = comma ∷ name_lexeme name ∷ colon ∷ number_lexeme n ∷ []

pub lex_at_most : (at_most : Option ℕ) (rest : List ℕ) → IfSome at_most (λ n. n < 2 ^ 64) → ends_word rest ≡ true
    → lex between (setting_text (codes ",\n  \"at_most\": ") at_most ++ rest) ≡ setting_lexemes (codes "at_most") at_most ++ lex between rest
unfolding json_on_literals
lex_at_most None rest small ended = refl
lex_at_most (Some n) rest small ended = ap (λ ls. comma ∷ name_lexeme (codes "at_most") ∷ colon ∷ ls) (lex_decimal n rest small ended)

pub lex_hard_weight : (hard_weight : Option ℕ) (rest : List ℕ) → IfSome hard_weight (λ n. n < 2 ^ 64) → ends_word rest ≡ true
    → lex between (setting_text (codes ",\n  \"hard_weight\": ") hard_weight ++ rest) ≡ setting_lexemes (codes "hard_weight") hard_weight ++ lex between rest
unfolding json_on_literals
lex_hard_weight None rest small ended = refl
lex_hard_weight (Some n) rest small ended = ap (λ ls. comma ∷ name_lexeme (codes "hard_weight") ∷ colon ∷ ls) (lex_decimal n rest small ended)
