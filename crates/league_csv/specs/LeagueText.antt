-- The text of a league that is made of a table: a row of distances a line.
use Rattle.std.specs.Prelude.{ℕ, List, [], ◌∷◌, ◌++◌, map, codes, decimal, Bool, true, false, Option, Some, None, option_map, if◌then◌else◌}
use Rattle.std.specs.List.{concat}
use Rattle.json.specs.Print.{quoted}
use Rattle.league_csv.specs.declared.league_text.Settings.{Settings}

-- what a league says beside its teams and distances
pub record Said : Type 0 where
  pub title : Option (List ℕ)
  pub at_most : Option ℕ
  pub hard_weight : Option ℕ

abbrev pub said_by : Settings → Said
said_by settings = record { title = option_map (λ title. title.now) settings.title; at_most = settings.at_most; hard_weight = settings.hard_weight }

-- texts, with another between each and the next, and before the first if something stands before it
abbrev pub listed : List ℕ → Bool → List (List ℕ) → List ℕ
listed between later [] = []
listed between later (text ∷ texts) = (if later then between else []) ++ (text ++ listed between true texts)

abbrev pub names_text : Bool → List (List ℕ) → List ℕ
names_text later names = listed (codes ", ") later (map quoted names)

abbrev pub numbers_text : Bool → List ℕ → List ℕ
numbers_text later numbers = listed (codes ", ") later (map decimal numbers)

abbrev pub row_text : List ℕ → List ℕ
row_text row = codes "\n    [" ++ (numbers_text false row ++ codes "]")

abbrev pub rows_text : Bool → List (List ℕ) → List ℕ
rows_text later rows = listed (codes ",") later (map row_text rows)

-- members that may be absent
abbrev pub title_text : Option (List ℕ) → List ℕ
title_text None = []
title_text (Some title) = codes ",\n  \"name\": " ++ quoted title

abbrev pub setting_text : List ℕ → Option ℕ → List ℕ
setting_text name None = []
setting_text name (Some number) = name ++ decimal number

unfoldable pub league_text : List (List ℕ) → List (List ℕ) → Said → List ℕ
league_text names distances said = concat (
    codes "{\n  \"format\": 3" ∷ title_text said.title ∷ codes ",\n  \"teams\": [" ∷ names_text false names ∷
    codes "],\n  \"distances\": [" ∷ rows_text false distances ∷ codes "\n  ]" ∷
    setting_text (codes ",\n  \"at_most\": ") said.at_most ∷
    setting_text (codes ",\n  \"hard_weight\": ") said.hard_weight ∷ codes "\n}\n" ∷ [])
