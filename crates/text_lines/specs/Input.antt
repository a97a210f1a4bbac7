-- How an input is cut at the first line that is a given word, and its two parts if that is `script`.
use Rattle.std.specs.Prelude.{◌≡◌, ℕ, ◌+◌, ◌<◌, ◌==◌, Bool, List, [], ◌∷◌, ◌++◌, length, codes, if◌then◌else◌, Option, Some, None, unwrap_or}
use Rattle.std.specs.List.{ends_with, slice_split}
use Rattle.std.specs.Str.{bytes_eq}
use Rattle.std.specs.Str.Lines.{lines, lines_of_parts, strip_carriage_return}

abbrev pub is_line_end : ℕ → Bool
is_line_end b = b == 10

-- the parts are what stands between line ends; only a part before a line end loses its carriage return
abbrev pub text_in_parts : List ℕ → List (List ℕ) → List ℕ
text_in_parts word [] = []
text_in_parts word (part ∷ []) = if bytes_eq part word then [] else part
text_in_parts word (part ∷ next ∷ more) =
    if bytes_eq (strip_carriage_return part) word then [] else part ++ 10 ∷ text_in_parts word (next ∷ more)

abbrev pub lines_in_parts : List ℕ → List (List ℕ) → Option (List (List ℕ))
lines_in_parts word [] = None
lines_in_parts word (part ∷ []) = if bytes_eq part word then Some [] else None
lines_in_parts word (part ∷ next ∷ more) =
    if bytes_eq (strip_carriage_return part) word then Some (lines_of_parts (next ∷ more)) else lines_in_parts word (next ∷ more)

-- the bytes before the first line that is the word, or all of them
unfoldable pub text_before : List ℕ → List ℕ → List ℕ
text_before word input = text_in_parts word (slice_split is_line_end input)

-- the lines after it, if there is one
unfoldable pub lines_after : List ℕ → List ℕ → Option (List (List ℕ))
lines_after word input = lines_in_parts word (slice_split is_line_end input)

-- a league's text, and a script after the first line that is `script`
unfoldable pub league_text : List ℕ → List ℕ
league_text input = text_before (codes "script") input

unfoldable pub script_lines : List ℕ → List (List ℕ)
script_lines input = unwrap_or (lines_after (codes "script") input) []

-- the first of these lines that ends with the bytes, if they are numbered from here
unfoldable pub first_ending : List ℕ → ℕ → List (List ℕ) → Option ℕ
first_ending ending number [] = None
first_ending ending number (line ∷ more) =
    if ends_with (λ a b. a == b) line ending then Some number else first_ending ending (number + 1) more

-- A line was taken from the front of a text: what the text's lines and its two parts at a word are, by the rest.
pub record TakesLine (text line rest : List ℕ) : Type 0 where
  pub taken : List ℕ
  pub parts : text ≡ taken ++ rest
  pub shorter : length rest < length text
  pub lines_are : lines text ≡ line ∷ lines rest
  pub before : (word : List ℕ) → text_before word text ≡ (if bytes_eq line word then [] else taken ++ text_before word rest)
  pub after : (word : List ℕ) → 0 < length word →
      lines_after word text ≡ (if bytes_eq line word then Some (lines rest) else lines_after word rest)
