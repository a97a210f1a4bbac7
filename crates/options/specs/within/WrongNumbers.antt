-- A word that stands where an option wants a number, and that clap doesn't take for it.
use Rattle.std.specs.Prelude.{ℕ, ◌==◌, ◌&&◌, Bool, true, false, List, [], ◌∷◌, ◌++◌, find, length, map, nat_le, slice_index}
use Rattle.std.specs.Prelude.{Option, Some, None, codes, decimal, if◌then◌else◌, is_some, option_and_then}
use Rattle.std.specs.List.{concat}
use Rattle.std.specs.Str.{bytes_eq}
use Rattle.clap.specs.Lexer.{long_of}
use Rattle.clap.specs.ValueTests.{accepts}
use Rattle.clap.specs.Words.{Text}
use Rattle.clap.specs.declared.error.kind.ErrorKind.{ErrorKind as Kind}
use Rattle.clap.specs.declared.error.kind.ErrorKind.TheVariants.{UnknownArgument, ValueValidation}
use Rattle.options.specs.Beginnings.{max_near}
use Rattle.options.specs.CommandLine.{OptionForm, number_option, plan_options, room_option, seconds_option, seed_option, terms_options}
use Rattle.options.specs.CommandLine.{workers_option}
use Rattle.options.specs.Effort.{thousandths_of_text}
use Rattle.options.specs.within.CommandLine.{form_of}
use Rattle.options.specs.declared.number_options.NumberOption.{NumberOption}
use Rattle.options.specs.declared.number_options.NumberOption.TheVariants.{Whole, Effort}
use Rattle.options.specs.declared.wrong_number.WrongNumber.{WrongNumber}

-- an option that wants a number: a whole one, or that of millions, which may have decimals
pub data Wanting : Type 0 where
  whole : OptionForm → Wanting
  effort : Wanting

abbrev pub name_of : Wanting → Text
name_of (whole o) = o.name
name_of effort = codes "effort"

-- the text is such a number
abbrev pub takes : Wanting → Text → Bool
takes (whole o) text = accepts false o.parser text
takes effort text = is_some (thousandths_of_text text)

-- an option as the program has it
abbrev pub wanting_of : NumberOption → Wanting
wanting_of (Whole arg) = whole (form_of arg)
wanting_of Effort = effort

-- what a moved game costs, of which clap takes any text
abbrev pub near_number : OptionForm
near_number = number_option (codes "near") 0 max_near None

abbrev pub play_numbers : List Wanting
play_numbers = whole room_option ∷ whole near_number ∷ []

abbrev pub improve_numbers : List Wanting
improve_numbers = whole workers_option ∷ whole seed_option ∷ effort ∷ whole seconds_option ∷ whole near_number ∷ []

abbrev pub search_numbers : List Wanting
search_numbers = map whole (room_option ∷ plan_options ++ near_number ∷ [])

abbrev pub report_numbers : List Wanting
report_numbers = whole near_number ∷ []

abbrev pub league_numbers : List Wanting
league_numbers = map whole terms_options

-- the options of a command that want a number
abbrev pub numbers_of : Text → List Wanting
numbers_of command = if bytes_eq command (codes "play") then play_numbers
    else (if bytes_eq command (codes "improve") then improve_numbers
    else (if bytes_eq command (codes "search") then search_numbers
    else (if bytes_eq command (codes "report") then report_numbers
    else (if bytes_eq command (codes "league") then league_numbers else []))))

abbrev pub named : Text → List Wanting → Option Wanting
named name = find (λ o. bytes_eq name (name_of o))

-- an option that wants a number, and what stands for the number
abbrev pub Wrong : Type 0
Wrong = Wanting × Text

abbrev pub wrong_of : WrongNumber → Wrong
wrong_of wrong = (wanting_of wrong.option, wrong.word.now)

-- the value, if it is no such number
abbrev pub wrong_value : Wanting → Text → Option Wrong
wrong_value o value = if takes o value then None else Some (o, value)

abbrev pub wrong_if_any : Option Wanting → Option Text → Option Wrong
wrong_if_any (Some o) (Some value) = wrong_value o value
wrong_if_any (Some o) None = None
wrong_if_any None value = None

-- the option that a word is about, and the value that it has: `--name`, `--name=value`, or the value that the option waits for
abbrev pub option_at : Text → Option Wanting → Text → Option Wanting
option_at command (Some o) word = Some o
option_at command None word = option_and_then (λ long. named long.0 (numbers_of command)) (long_of word)

abbrev pub value_at : Option Wanting → Text → Option Text
value_at (Some o) word = Some word
value_at None word = option_and_then (λ long. long.1) (long_of word)

-- the option that waits for its value
abbrev pub waits : Option Wanting → Option Text → Option Wanting
waits o None = o
waits o (Some value) = None

abbrev pub or_later : Option Wrong → Option Wrong → Option Wrong
or_later (Some wrong) later = Some wrong
or_later None later = later

-- the first one, up to a word `--`, behind an option that waits for its value
abbrev pub wrong_from : Text → Option Wanting → List Text → Option Wrong
wrong_from command waiting [] = None
wrong_from command waiting (word ∷ words) = if bytes_eq word (codes "--") then None
    else or_later (wrong_if_any (option_at command waiting word) (value_at waiting word))
    (wrong_from command (waits (option_at command waiting word) (value_at waiting word)) words)

abbrev pub is_digit : ℕ → Bool
is_digit b = nat_le 48 b && nat_le b 57

-- the word is a number below 0, which clap takes for options
abbrev pub is_negative : Text → Bool
is_negative word = nat_le 2 (length word) && (slice_index word 0 == 45 && is_digit (slice_index word 1))

-- clap refuses the words for that word
abbrev pub is_cause : Kind → Text → Bool
is_cause ValueValidation word = true
is_cause UnknownArgument word = is_negative word
is_cause kind word = false

abbrev pub only_cause : Kind → Wrong → Option Wrong
only_cause kind wrong = if is_cause kind wrong.1 then Some wrong else None

-- the number for which clap refuses the words of a command with an error of this kind
abbrev pub cause_of : Kind → Text → List Text → Option Wrong
cause_of kind command words = option_and_then (only_cause kind) (wrong_from command None words)

-- how help calls the number
abbrev pub value_name_of : NumberOption → Text
value_name_of (Whole arg) = arg.value_name.now
value_name_of Effort = codes "E"

-- the most that an improvement draws, in millions
abbrev pub max_millions : ℕ
max_millions = 1000000

-- what is wanted, and what is said of a word that isn't that
abbrev pub wanted_words : NumberOption → Text
wanted_words (Whole arg) = concat (codes "a whole number from " ∷ decimal arg.least ∷ codes " to " ∷ decimal arg.most ∷ [])
wanted_words Effort = concat (codes "a number from 0.001 to " ∷ decimal max_millions ∷ codes " with at most three decimals" ∷ [])

abbrev pub wrong_words : WrongNumber → Text
wrong_words wrong = concat (codes "invalid value '" ∷ wrong.word.now ∷ codes "' for '--" ∷ name_of (wanting_of wrong.option)
    ∷ codes " <" ∷ value_name_of wrong.option ∷ codes ">': " ∷ wanted_words wrong.option ∷ codes " is wanted" ∷ [])
