-- What a JSON value is, and how it is shown.
use Rattle.std.specs.Prelude.{ℕ, ◌-◌, ◌==◌, List, [], ◌∷◌, ◌++◌, length, map, take, replicate, codes, decimal, Bool}
use Rattle.std.specs.Char.{encode_utf8}
use Rattle.std.specs.Prelude.{nat_lt, Float, Option, Some, None, option_map, option_and_then, if◌then◌else◌}
use Rattle.std.specs.Fmt.{signed_decimal}
use Rattle.std.specs.List.{concat, flat_map}
use Rattle.std.specs.Option.{unwrap_or}
use Rattle.std.specs.Str.{chars}
use Rattle.serde_json.specs.Data.{Data, Items, no_items, item}
use Rattle.serde_json.specs.Events.{items_len}
use Rattle.serde_json.specs.Find.{as_array, as_bool, as_i64, as_number, as_object, as_str, to_float}
use Rattle.league_json.specs.Json.{whole_number}
use Rattle.league_forms.specs.declared.form.Form.{Form}
use Rattle.league_forms.specs.declared.form.Form.TheVariants as form
use Rattle.league_forms.specs.declared.form.Quote.{Quote}
use Rattle.league_forms.specs.Shown.{shown_byte}

-- an answer, or else another one
abbrev pub or_else : {A : Type 0} → Option A → Option A → Option A
or_else (Some x) other = Some x
or_else None other = other

-- the most characters of a text that are shown
abbrev pub most_shown : ℕ
most_shown = 40

-- the first 40 characters, with 0 for each that there are too few
abbrev pub filled : List ℕ → List ℕ
filled cs = take most_shown cs ++ replicate (most_shown - length cs) 0

-- the characters of a text, with a question mark for each control byte
abbrev pub shown_characters : List ℕ → List ℕ
shown_characters text = map shown_byte (chars text)

-- the beginning of these characters
abbrev pub quoted : List ℕ → Quote
quoted shown = record { characters = filled shown; is_cut = nat_lt most_shown (length shown) }

unfoldable pub quote_of : List ℕ → Quote
quote_of text = quoted (shown_characters text)

-- 0 stands for none
abbrev pub character_text : ℕ → List ℕ
character_text c = if c == 0 then [] else encode_utf8 c

abbrev pub dots : Bool → List ℕ
dots is_cut = if is_cut then codes ".." else []

abbrev pub quote_words : Quote → List ℕ
quote_words quote = concat (codes "\"" ∷ flat_map character_text quote.characters ∷ dots quote.is_cut ∷ codes "\"" ∷ [])

-- two whole numbers
abbrev pub pair_form : Items → Option Form
pair_form (item a (item b no_items)) = option_and_then (λ x. option_map (form.Pair x) (whole_number b)) (whole_number a)
pair_form items = None

abbrev pub array_form : Items → Form
array_form items = unwrap_or (pair_form items) (form.Array (items_len items))

abbrev pub number_form : Data → Option Form
number_form d = or_else (option_map form.Whole (whole_number d))
    (or_else (option_map form.Negative (option_and_then as_i64 (as_number d))) (option_map (λ n. form.Float (to_float n)) (as_number d)))

-- a value that is no number
abbrev pub other_form : Data → Form
other_form d = unwrap_or
    (or_else (option_map (λ text. form.Text (quote_of text)) (as_str d))
    (or_else (option_map array_form (as_array d)) (or_else (option_map form.Boolean (as_bool d)) (option_map (λ ms. form.Object) (as_object d)))))
    form.Null

abbrev pub form_of : Data → Form
form_of d = unwrap_or (number_form d) (other_form d)

abbrev pub truth_words : Bool → List ℕ
truth_words is_true = if is_true then codes "true" else codes "false"

-- a number that is no whole number of 64 bits
abbrev pub float_of : Form → Option Float
float_of (form.Float number) = Some number
float_of form = None

-- how it is shown, by this numeral if it is such a number
abbrev pub form_words : List ℕ → Form → List ℕ
form_words numeral form.Null = codes "null"
form_words numeral (form.Boolean is_true) = truth_words is_true
form_words numeral (form.Whole number) = decimal number
form_words numeral (form.Negative number) = signed_decimal number
form_words numeral (form.Float number) = numeral
form_words numeral (form.Text quote) = quote_words quote
form_words numeral (form.Pair first second) = concat (codes "[" ∷ decimal first ∷ codes ", " ∷ decimal second ∷ codes "]" ∷ [])
form_words numeral (form.Array length) = codes "an array of length " ++ decimal length
form_words numeral form.Object = codes "an object"
