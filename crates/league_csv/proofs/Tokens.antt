-- The tokens of a league's text, and the JSON that they are.
use Rattle.std.proofs.Common.{◌≡◌, ℕ, ◌≤◌, true, false, List, [], ◌∷◌, ◌++◌, codes, decimal, Option, Some, None, refl, sym, ap, ◌∙◌, arith, append_assoc}
use Rattle.json.specs.Token as json
use Rattle.json.specs.Token.{Token}
use Rattle.json.specs.Json.{number, string, array, Items, no_items, item, Members, member}
use Rattle.json.specs.Lex.{Lexeme, token, comma, colon, begins_colon, punctuate, fresh, after_value}
use Rattle.json.specs.Tree.{items_tokens, members_tokens, items_depth}
use Rattle.league_csv.proofs.Lexed.{names_lexemes, numbers_lexemes, rows_lexemes, title_lexemes, name_lexeme}

abbrev pub name_items : List (List ℕ) → Items
name_items [] = no_items
name_items (name ∷ names) = item (string name) (name_items names)

abbrev pub number_items : List ℕ → Items
number_items [] = no_items
number_items (n ∷ ns) = item (number (decimal n)) (number_items ns)

abbrev pub row_items : List (List ℕ) → Items
row_items [] = no_items
row_items (row ∷ rows) = item (array (number_items row)) (row_items rows)

abbrev pub title_member : Option (List ℕ) → Members → Members
title_member None more = more
title_member (Some title) more = member (codes "name") (string title) more

abbrev pub term_member : List ℕ → Option ℕ → Members → Members
term_member name None more = more
term_member name (Some n) more = member name (number (decimal n)) more

-- ---- the lexemes of the items give their tokens

no_colon : (names : List (List ℕ)) (rest : List Lexeme) → begins_colon (names_lexemes true names ++ token json.end_array ∷ rest) ≡ false
no_colon [] rest = refl
no_colon (name ∷ names) rest = refl

pub more_names : (names : List (List ℕ)) (rest : List Lexeme)
    → punctuate after_value (names_lexemes true names ++ token json.end_array ∷ rest) ≡ items_tokens (name_items names) ++ punctuate after_value rest
unfolding punctuate
more_names [] rest = refl
more_names (name ∷ names) rest = rw (no_colon names rest) (ap (λ ts. json.string name ∷ ts) (more_names names rest))

pub all_names : (names : List (List ℕ)) (rest : List Lexeme)
    → punctuate fresh (names_lexemes false names ++ token json.end_array ∷ rest) ≡ items_tokens (name_items names) ++ punctuate after_value rest
unfolding punctuate
all_names [] rest = refl
all_names (name ∷ names) rest = rw (no_colon names rest) (ap (λ ts. json.string name ∷ ts) (more_names names rest))

more_numbers : (ns : List ℕ) (rest : List Lexeme)
    → punctuate after_value (numbers_lexemes true ns ++ token json.end_array ∷ rest) ≡ items_tokens (number_items ns) ++ punctuate after_value rest
unfolding punctuate
more_numbers [] rest = refl
more_numbers (n ∷ ns) rest = ap (λ ts. json.number (decimal n) ∷ ts) (more_numbers ns rest)

all_numbers : (ns : List ℕ) (rest : List Lexeme)
    → punctuate fresh (numbers_lexemes false ns ++ token json.end_array ∷ rest) ≡ items_tokens (number_items ns) ++ punctuate after_value rest
unfolding punctuate
all_numbers [] rest = refl
all_numbers (n ∷ ns) rest = ap (λ ts. json.number (decimal n) ∷ ts) (more_numbers ns rest)

one_row : (row : List ℕ) (rows : List (List ℕ)) (rest : List Lexeme)
    → punctuate after_value (rows_lexemes true rows ++ token json.end_array ∷ rest) ≡ items_tokens (row_items rows) ++ punctuate after_value rest
    → punctuate fresh ((numbers_lexemes false row ++ token json.end_array ∷ rows_lexemes true rows) ++ token json.end_array ∷ rest)
    ≡ (items_tokens (number_items row) ++ items_tokens (row_items rows)) ++ punctuate after_value rest
one_row row rows rest more =
    ap (punctuate fresh) (append_assoc (numbers_lexemes false row) (token json.end_array ∷ rows_lexemes true rows) (token json.end_array ∷ rest))
    ∙ all_numbers row (rows_lexemes true rows ++ token json.end_array ∷ rest) ∙ ap (λ ts. items_tokens (number_items row) ++ ts) more
    ∙ sym (append_assoc (items_tokens (number_items row)) (items_tokens (row_items rows)) (punctuate after_value rest))

more_rows : (rows : List (List ℕ)) (rest : List Lexeme)
    → punctuate after_value (rows_lexemes true rows ++ token json.end_array ∷ rest) ≡ items_tokens (row_items rows) ++ punctuate after_value rest
unfolding punctuate
more_rows [] rest = refl
more_rows (row ∷ rows) rest = ap (λ ts. json.begin_array ∷ ts) (one_row row rows rest (more_rows rows rest))

pub all_rows : (rows : List (List ℕ)) (rest : List Lexeme)
    → punctuate fresh (rows_lexemes false rows ++ token json.end_array ∷ rest) ≡ items_tokens (row_items rows) ++ punctuate after_value rest
unfolding punctuate
all_rows [] rest = refl
all_rows (row ∷ rows) rest = ap (λ ts. json.begin_array ∷ ts) (one_row row rows rest (more_rows rows rest))

-- those of the members from the league's name on
pub titled : (title : Option (List ℕ)) (names : List Lexeme) (teams : Items) (more : Members)
    → punctuate fresh names ≡ items_tokens teams ++ members_tokens more
    → punctuate after_value (title_lexemes title ++ comma ∷ name_lexeme (codes "teams") ∷ colon ∷ token json.begin_array ∷ names)
    ≡ members_tokens (title_member title (member (codes "teams") (array teams) more))
unfolding punctuate
titled None names teams more is = ap (λ ts. json.key (codes "teams") ∷ json.begin_array ∷ ts) is
titled (Some title) names teams more is =
    ap (λ ts. json.key (codes "name") ∷ json.string title ∷ json.key (codes "teams") ∷ json.begin_array ∷ ts) is

-- ---- how deep they are

pub flat_names : (names : List (List ℕ)) → items_depth (name_items names) ≡ 0
flat_names [] = refl
flat_names (name ∷ names) = omega (arith, flat_names names)

flat_numbers : (ns : List ℕ) → items_depth (number_items ns) ≡ 0
flat_numbers [] = refl
flat_numbers (n ∷ ns) = omega (arith, flat_numbers ns)

pub flat_rows : (rows : List (List ℕ)) → items_depth (row_items rows) ≤ 1
flat_rows [] = omega arith
flat_rows (row ∷ rows) = omega (arith, flat_numbers row, flat_rows rows)
