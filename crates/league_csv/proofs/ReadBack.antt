-- A league's text is read as the value that it is.
use Rattle.std.proofs.Common.{◌≡◌, ℕ, ◌≤◌, ◌<◌, ◌^◌, true, false, List, [], ◌∷◌, ◌++◌, codes, Option, Some, None, option_and_then, refl, sym, ap, ◌∙◌, arith, append-nil, IfSome}
use Rattle.json.specs.Token as json
use Rattle.json.specs.Word.{ends_word}
use Rattle.json.specs.Json.{Json, Members, number, array, object, no_members, member, if_last, value}
use Rattle.json.specs.Lex.{Lexeme, token, comma, colon, lex, between, punctuate, fresh, after_value, tokens}
use Rattle.json.specs.Tree.{json_tokens, items_tokens, members_tokens, depth}
use Rattle.json.proofs.OnLiterals.{json_on_literals}
use Rattle.json.proofs.Printed.Numbers.{lex-number}
use Rattle.json.proofs.Printed.Trees.{value-json_tokens}
use Rattle.serde_json.specs.Read.{of_json, read, max_depth}
use Rattle.league_csv.specs.LeagueText.{Said, setting_text, title_text, league_text}
use Rattle.league_csv.proofs.Lexed.{RowsAreSmall, name_lexeme, names_lexemes, rows_lexemes, setting_lexemes, title_lexemes, lex_names, lex_rows, lex_title, lex_at_most, lex_hard_weight}
use Rattle.league_csv.proofs.Tokens.{name_items, row_items, term_member, title_member, all_names, all_rows, titled, flat_names, flat_rows}

abbrev pub AreSmallSettings : Said → Type 0
AreSmallSettings said = IfSome said.at_most (λ n. n < 2 ^ 64) × IfSome said.hard_weight (λ n. n < 2 ^ 64)

-- ---- the parts that are always the same

lex_head : (rest : List ℕ) → ends_word rest ≡ true → lex between (codes "{\n  \"format\": 3" ++ rest)
    ≡ token json.begin_object ∷ name_lexeme (codes "format") ∷ colon ∷ token (json.number (codes "3")) ∷ lex between rest
unfolding json_on_literals
lex_head rest ended = ap (λ ls. token json.begin_object ∷ name_lexeme (codes "format") ∷ colon ∷ ls) (lex-number (codes "3") rest refl ended)

title_ends : (title : Option (List ℕ)) (rest : List ℕ) → ends_word (title_text title ++ (codes ",\n  \"teams\": [" ++ rest)) ≡ true
title_ends None rest = refl
title_ends (Some title) rest = refl

lex_teams : (rest : List ℕ) → lex between (codes ",\n  \"teams\": [" ++ rest)
    ≡ comma ∷ name_lexeme (codes "teams") ∷ colon ∷ token json.begin_array ∷ lex between rest
unfolding json_on_literals
lex_teams rest = refl

lex_middle : (rest : List ℕ) → lex between (codes "],\n  \"distances\": [" ++ rest)
    ≡ token json.end_array ∷ comma ∷ name_lexeme (codes "distances") ∷ colon ∷ token json.begin_array ∷ lex between rest
unfolding json_on_literals
lex_middle rest = refl

lex_close : (rest : List ℕ) → lex between (codes "\n  ]" ++ rest) ≡ token json.end_array ∷ lex between rest
unfolding json_on_literals
lex_close rest = refl

module _ (names distances : List (List ℕ)) (said : Said) where
  abbrev last : List ℕ
  last = setting_text (codes ",\n  \"hard_weight\": ") said.hard_weight ++ codes "\n}\n"

  abbrev last_lexemes : List Lexeme
  last_lexemes = setting_lexemes (codes "at_most") said.at_most ++ (setting_lexemes (codes "hard_weight") said.hard_weight ++ token json.end_object ∷ [])

  abbrev pub whole : Json
  whole = object (member (codes "format") (number (codes "3")) (title_member said.title (member (codes "teams") (array (name_items names))
      (member (codes "distances") (array (row_items distances))
      (term_member (codes "at_most") said.at_most (term_member (codes "hard_weight") said.hard_weight no_members))))))

  abbrev last_members : Members
  last_members = term_member (codes "at_most") said.at_most (term_member (codes "hard_weight") said.hard_weight no_members)

  weight_ends : (weight : Option ℕ) → ends_word (setting_text (codes ",\n  \"hard_weight\": ") weight ++ codes "\n}\n") ≡ true
  weight_ends None = refl
  weight_ends (Some n) = refl

  lex_last : AreSmallSettings said → lex between (setting_text (codes ",\n  \"at_most\": ") said.at_most ++ last) ≡ last_lexemes
  unfolding json_on_literals
  lex_last small =
      lex_at_most said.at_most last small.0 (weight_ends said.hard_weight)
      ∙ ap (λ ls. setting_lexemes (codes "at_most") said.at_most ++ ls) (lex_hard_weight said.hard_weight (codes "\n}\n") small.1 refl)

  lex_text : RowsAreSmall distances → AreSmallSettings said → lex between (league_text names distances said)
      ≡ token json.begin_object ∷ name_lexeme (codes "format") ∷ colon ∷ token (json.number (codes "3"))
      ∷ (title_lexemes said.title ++ comma ∷ name_lexeme (codes "teams") ∷ colon
      ∷ token json.begin_array ∷ (names_lexemes false names ++ token json.end_array ∷ comma ∷ name_lexeme (codes "distances") ∷ colon
      ∷ token json.begin_array ∷ (rows_lexemes false distances ++ token json.end_array ∷ last_lexemes)))
  unfolding league_text
  lex_text small small_terms =
      let behind_rows = lex_close (setting_text (codes ",\n  \"at_most\": ") said.at_most ++ last) ∙ ap (λ ls. token json.end_array ∷ ls) (lex_last small_terms) in
      let rows = lex_rows false distances _ small ∙ ap (λ ls. rows_lexemes false distances ++ ls) behind_rows in
      let behind_names = lex_middle _ ∙ ap (λ ls. token json.end_array ∷ comma ∷ name_lexeme (codes "distances") ∷ colon ∷ token json.begin_array ∷ ls) rows in
      let teams = lex_names false names _ ∙ ap (λ ls. names_lexemes false names ++ ls) behind_names in
      let titled = lex_title said.title _ ∙ ap (λ ls. title_lexemes said.title ++ ls)
      (lex_teams _ ∙ ap (λ ls. comma ∷ name_lexeme (codes "teams") ∷ colon ∷ token json.begin_array ∷ ls) teams) in
      lex_head _ (title_ends said.title _)
      ∙ ap (λ ls. token json.begin_object ∷ name_lexeme (codes "format") ∷ colon ∷ token (json.number (codes "3")) ∷ ls) titled

  last_tokens : punctuate after_value last_lexemes
      ≡ members_tokens last_members
  unfolding punctuate
  last_tokens = terms_tokens said.at_most said.hard_weight
    where
      terms_tokens : (at_most hard_weight : Option ℕ)
          → punctuate after_value (setting_lexemes (codes "at_most") at_most ++ (setting_lexemes (codes "hard_weight") hard_weight ++ token json.end_object ∷ []))
          ≡ members_tokens (term_member (codes "at_most") at_most (term_member (codes "hard_weight") hard_weight no_members))
      terms_tokens None None = refl
      terms_tokens (Some n) None = refl
      terms_tokens None (Some w) = refl
      terms_tokens (Some n) (Some w) = refl

  all_tokens : RowsAreSmall distances → AreSmallSettings said → tokens (league_text names distances said) ≡ json_tokens whole
  unfolding punctuate
  all_tokens small small_terms =
      let rows = all_rows distances last_lexemes ∙ ap (λ ts. items_tokens (row_items distances) ++ ts) last_tokens in
      let teams = all_names names (comma ∷ name_lexeme (codes "distances") ∷ colon ∷ token json.begin_array ∷ (rows_lexemes false distances ++ token json.end_array ∷ last_lexemes))
      ∙ ap (λ ts. items_tokens (name_items names) ++ json.key (codes "distances") ∷ json.begin_array ∷ ts) rows in
      ap (punctuate fresh) (lex_text small small_terms)
      ∙ ap (λ ts. json.begin_object ∷ json.key (codes "format") ∷ json.number (codes "3") ∷ ts)
      (titled said.title _ (name_items names) (member (codes "distances") (array (row_items distances)) last_members) teams)

  shallow : depth whole ≤ max_depth
  shallow = few said.title said.at_most said.hard_weight
    where
      few : (title : Option (List ℕ)) (at_most hard_weight : Option ℕ)
          → depth (object (member (codes "format") (number (codes "3")) (title_member title (member (codes "teams") (array (name_items names))
          (member (codes "distances") (array (row_items distances))
          (term_member (codes "at_most") at_most (term_member (codes "hard_weight") hard_weight no_members))))))) ≤ max_depth
      few None None None = omega (arith, flat_names names, flat_rows distances)
      few None (Some n) None = omega (arith, flat_names names, flat_rows distances)
      few None None (Some w) = omega (arith, flat_names names, flat_rows distances)
      few None (Some n) (Some w) = omega (arith, flat_names names, flat_rows distances)
      few (Some t) None None = omega (arith, flat_names names, flat_rows distances)
      few (Some t) (Some n) None = omega (arith, flat_names names, flat_rows distances)
      few (Some t) None (Some w) = omega (arith, flat_names names, flat_rows distances)
      few (Some t) (Some n) (Some w) = omega (arith, flat_names names, flat_rows distances)

  pub read_whole : RowsAreSmall distances → AreSmallSettings said → read (league_text names distances said) ≡ of_json whole
  read_whole small small_terms =
      ap (λ ts. option_and_then of_json (option_and_then (λ p. if_last p.0 p.1) (value max_depth ts)))
      (all_tokens small small_terms ∙ sym (append-nil (json_tokens whole)))
      ∙ ap (λ o. option_and_then of_json (option_and_then (λ p. if_last p.0 p.1) o)) (value-json_tokens whole max_depth [] shallow)
