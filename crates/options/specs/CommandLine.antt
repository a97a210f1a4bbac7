-- The program's command line, as clap reads it: commands, each with words and options.
use Rattle.std.specs.Prelude.{◌≤◌, ◌^◌, ◌-◌, ◌*◌, ℕ, Some, None, Option, List, [], ◌∷◌, ◌++◌, ◌&&◌, ◌||◌, Bool, codes, true, false, map}
use Rattle.std.specs.Prelude.{fold}
use Rattle.std.specs.Prelude.{IfSome, if◌then◌else◌, is_some, option_and_then, option_map}
use Rattle.std.specs.Option.{option_map_or}
use Rattle.std.specs.Str.{bytes_eq}
use Rattle.std.specs.Str.Parse.{digits_value, without_leading_plus}
use Rattle.clap.specs.Words.{App, Rule, Row, Text, new_app, new_rule, with_rule, with_subcommand}
use Rattle.clap.specs.Words.{Kinds, fault_of, first_of, one_of, subcommand_of}
use Rattle.clap.specs.Kinds.{or_else}
use Rattle.clap.specs.Simple.{on_top}
use Rattle.clap.specs.declared.builder.value_parser.ValueParser.{ValueParser}
use Rattle.clap.specs.declared.builder.value_parser.ValueParser.TheVariants as parsers
use Rattle.clap.specs.declared.error.kind.ErrorKind.TheVariants.{InvalidValue}
use Rattle.clap.specs.declared.builder.action.ArgAction.TheVariants.{Append, SetTrue}
use Rattle.options.specs.Beginnings.{Beginning, beginning_in}
use Rattle.options.specs.Effort.{thousandths_in}
use Rattle.options.specs.Files.{Files, files_of_command}
use Rattle.options.specs.declared.job.Job.{Job}
use Rattle.options.specs.declared.job.Job.TheVariants.{Start, Play, Improve, Find, Report, League, Bound}
use Rattle.choices.specs.declared.symmetry.Symmetry.{Symmetry}
use Rattle.choices.specs.declared.symmetry.Symmetry.TheVariants.{Mean, Max}
use Rattle.choices.specs.Limits.{max_room}
use Rattle.league.specs.Labels.{is_title}
use Rattle.choices.specs.declared.format.Separator.{Separator}
use Rattle.choices.specs.declared.format.Separator.TheVariants.{Comma, Semicolon, Tab}
use Rattle.choices.specs.declared.format.Format.{Format}
use Rattle.choices.specs.declared.format.Format.TheVariants as formats
use Rattle.choices.specs.declared.search_plan.SearchPlan.{SearchPlan}
use Rattle.sets.specs.Limits.{max_rounds}

-- an option `--name VALUE`: what clap asks of the value, and what stands for it if it isn't given, if anything does
pub record OptionForm : Type 0 where
  pub name : Text
  pub parser : ValueParser
  pub default : Option Text

-- a command: the words that may stand after it, its options, and those that may be left out and then have no value
pub record CommandForm : Type 0 where
  pub name : Text
  pub words : List Rule
  pub options : List OptionForm
  pub free : List Rule

-- an option `--name N` with the range of N
abbrev pub number_option : Text → ℕ → ℕ → Option Text → OptionForm
number_option name least most default = record { name = name; parser = parsers.Unsigned least most; default = default }

-- how many changes a board has room for
abbrev pub room_option : OptionForm
room_option = number_option (codes "room") 0 max_room (Some (codes "1024"))

-- how many workers search at once
abbrev pub workers_option : OptionForm
workers_option = number_option (codes "workers") 1 16 (Some (codes "2"))

-- what the workers' draws begin with
abbrev pub seed_option : OptionForm
seed_option = number_option (codes "seed") 0 (2 ^ 64 - 1) (Some (codes "1"))

-- how many million moves the workers draw together; a text that has no such number is refused apart
abbrev pub effort_option : OptionForm
effort_option = record { name = codes "effort"; parser = parsers.String; default = Some (codes "10") }

-- for how many seconds improvements follow each other; without it there is one alone
abbrev pub seconds_option : OptionForm
seconds_option = number_option (codes "seconds") 1 1000000 None

-- how many moves each worker draws
abbrev pub steps_option : OptionForm
steps_option = number_option (codes "steps") 0 1000000 (Some (codes "1000"))

-- by how much a score may rise at the first step
abbrev pub slack_option : OptionForm
slack_option = number_option (codes "slack") 0 (2 ^ 64 - 1) (Some (codes "0"))

-- how many games in a row a league allows at home, or away; without it the league doesn't say
abbrev pub at_most_option : OptionForm
at_most_option = number_option (codes "at-most") 1 78 None

-- what each breach of a hard limit of a league costs; without it the league doesn't say
abbrev pub hard_weight_option : OptionForm
hard_weight_option = number_option (codes "hard-weight") 1 1000000 None

-- in which form a report is written; the names that a format has are asked for apart
abbrev pub format_option : OptionForm
format_option = record { name = codes "format"; parser = parsers.String; default = Some (codes "text") }

-- a word, and an option with a text, that may be left out
abbrev pub word : Text → Rule
word name = record (new_rule name) { value_names = 1; parser = Some parsers.NonEmptyString }

abbrev pub text_option : Text → Rule
text_option name = record (word name) { long = Some name }

-- an option that has a letter too
abbrev pub lettered : ℕ → Rule → Rule
lettered letter r = record r { short = Some letter }

-- an option without a value
abbrev pub flag : Text → Rule
flag name = record (new_rule name) { long = Some name; action = Some SetTrue }

-- an option that can be given several times
abbrev pub repeated : Rule → Rule
repeated r = record r { action = Some Append }

abbrev pub league_word : Rule
league_word = word (codes "league")

-- what is taken for two distances that differ; the names are asked for apart
abbrev pub symmetric_option : Rule
symmetric_option = text_option (codes "symmetric")

-- what a league that is made is called; a text that none can be called is refused apart
abbrev pub name_option : Rule
name_option = text_option (codes "name")

-- the script or the schedule beside the league
abbrev pub second_word : Rule
second_word = word (codes "second")

-- the schedule at which boards begin
abbrev pub from_option : Rule
from_option = text_option (codes "from")

-- the file that is to have the best schedule so far, `-o` or `--output`
abbrev pub output_option : Rule
output_option = lettered 111 (text_option (codes "output"))

-- the file that is to have a line for each leg
abbrev pub log_option : Rule
log_option = text_option (codes "log")

-- the history that leads to the best schedule is written too
abbrev pub history_option : Rule
history_option = flag (codes "history")

-- the options of files that are written
abbrev pub file_rules : List Rule
file_rules = output_option ∷ log_option ∷ []

-- what a moved game costs
abbrev pub near_option : Rule
near_option = text_option (codes "near")

-- the options of a report but its format; the last ones say what parts the cells of CSV, and whether a byte order mark stands before it
abbrev pub report_rules : List Rule
report_rules = from_option ∷ near_option ∷ text_option (codes "separator") ∷ flag (codes "bom") ∷ []

-- the options of a start
abbrev pub start_rules : List Rule
start_rules = from_option ∷ text_option (codes "keep") ∷ repeated (text_option (codes "keep-game")) ∷ near_option ∷ []

abbrev pub start_command : CommandForm
start_command = record { name = codes "start"; words = league_word ∷ []; options = []; free = from_option ∷ [] }

abbrev pub play_command : CommandForm
play_command = record {
  name = codes "play";
  words = league_word ∷ second_word ∷ [];
  options = room_option ∷ [];
  free = start_rules;
}

-- the options of an improvement that have a number
abbrev pub improve_options : List OptionForm
improve_options = workers_option ∷ seed_option ∷ effort_option ∷ seconds_option ∷ []

abbrev pub improve_command : CommandForm
improve_command = record {
  name = codes "improve";
  words = league_word ∷ [];
  options = improve_options;
  free = history_option ∷ file_rules ++ start_rules;
}

-- the numbers of a search beside its room
abbrev pub plan_options : List OptionForm
plan_options = workers_option ∷ seed_option ∷ steps_option ∷ slack_option ∷ []

abbrev pub search_command : CommandForm
search_command = record {
  name = codes "search";
  words = league_word ∷ [];
  options = room_option ∷ plan_options;
  free = start_rules;
}

abbrev pub report_command : CommandForm
report_command = record {
  name = codes "report";
  words = league_word ∷ second_word ∷ [];
  options = format_option ∷ [];
  free = report_rules;
}

-- the numbers of a league that is made of a table
abbrev pub terms_options : List OptionForm
terms_options = at_most_option ∷ hard_weight_option ∷ []

abbrev pub league_command : CommandForm
league_command = record { name = codes "league"; words = league_word ∷ []; options = terms_options; free = symmetric_option ∷ name_option ∷ [] }

abbrev pub bound_command : CommandForm
bound_command = record { name = codes "bound"; words = league_word ∷ []; options = []; free = [] }

abbrev pub commands : List CommandForm
commands = start_command ∷ play_command ∷ improve_command ∷ search_command ∷ report_command ∷ league_command ∷ bound_command ∷ []

-- an option and a command, as clap has them
abbrev pub rule_of : OptionForm → Rule
rule_of o = record (new_rule o.name) {
  long = Some o.name;
  value_names = 1;
  parser = Some o.parser;
  defaults = option_map_or (λ text. text ∷ []) o.default [];
}

abbrev pub app_of_command : CommandForm → App
app_of_command c = fold with_rule (new_app c.name) (c.words ++ map rule_of c.options ++ c.free)

-- one command is needed
abbrev pub needing_command : App → App
needing_command = on_top (λ top. record top { subcommand_required = true })

-- a version is told
abbrev pub telling_version : App → App
telling_version = on_top (λ top. record top { has_version = true })

-- `ttp` with these commands
abbrev pub program_of : List CommandForm → App
program_of cs = fold (λ app c. with_subcommand app (app_of_command c).top) (telling_version (needing_command (new_app (codes "ttp")))) cs

abbrev pub program : App
program = program_of commands

-- the number that stands after an option, or its default, if there is one
abbrev pub number_in : Text → List Row → Option ℕ
number_in name rows = option_map (λ text. digits_value 10 (without_leading_plus text)) (one_of name rows)

-- whether the option without a value is there
abbrev pub is_flagged : Text → List Row → Bool
is_flagged name rows = option_map_or (λ text. bytes_eq text (codes "true")) (first_of name rows) false

-- the improvement with so many thousandths of a million steps, by these workers, with this seed, for so many seconds if they are given,
-- and with the history or without it
abbrev pub improve_from : Option ℕ → Option ℕ → Option ℕ → Option ℕ → Bool → Option Job
improve_from (Some thousandths) (Some workers) (Some seed) seconds history = Some (Improve workers seed (thousandths * 1000) seconds history)
improve_from _ _ _ _ _ = None

-- the improvement that stands after the options
abbrev pub improve_in : List Row → Option Job
improve_in rows =
    improve_from (thousandths_in rows) (number_in (codes "workers") rows) (number_in (codes "seed") rows) (number_in (codes "seconds") rows)
    (is_flagged (codes "history") rows)

-- the plan of these workers, seed, steps and slack
abbrev pub plan_from : Option ℕ → Option ℕ → Option ℕ → Option ℕ → Option SearchPlan
plan_from (Some workers) (Some seed) (Some steps) (Some slack) =
    Some (record { workers = workers; seed = seed; steps = steps; slack = slack })
plan_from _ _ _ _ = None

-- the plan that stands after the options
abbrev pub plan_in : List Row → Option SearchPlan
plan_in rows =
    plan_from (number_in (codes "workers") rows) (number_in (codes "seed") rows) (number_in (codes "steps") rows)
    (number_in (codes "slack") rows)

-- the search of this room and plan
abbrev pub find_from : Option ℕ → Option SearchPlan → Option Job
find_from (Some room) (Some plan) = Some (Find room plan)
find_from _ _ = None

abbrev pub separator_named : Text → Option Separator
separator_named name = if bytes_eq name (codes ",") then Some Comma
    else (if bytes_eq name (codes ";") then Some Semicolon
    else (if bytes_eq name (codes "tab") then Some Tab else None))

-- a comma, if no separator is named
abbrev pub separator_of : Option Text → Option Separator
separator_of None = Some Comma
separator_of (Some name) = separator_named name

abbrev pub csv_with : Bool → Separator → Format
csv_with has_mark separator = formats.Csv (record { separator = separator; has_mark = has_mark })

-- the format of that name, with a separator and a mark for CSV alone
abbrev pub format_named : Text → Option Text → Bool → Option Format
format_named name separator has_mark =
    if bytes_eq name (codes "csv") then option_map (csv_with has_mark) (separator_of separator)
    else (if is_some separator || has_mark then None
    else (if bytes_eq name (codes "text") then Some formats.Text
    else (if bytes_eq name (codes "html") then Some formats.Html
    else (if bytes_eq name (codes "names") then Some formats.Names
    else (if bytes_eq name (codes "json") then Some formats.Json else None)))))

-- the format whose name stands after its option, or its default, with what is asked for CSV
abbrev pub format_in : List Row → Option Format
format_in rows = option_and_then
    (λ name. format_named name (first_of (codes "separator") rows) (is_flagged (codes "bom") rows)) (first_of (codes "format") rows)

abbrev pub symmetry_named : Text → Option Symmetry
symmetry_named name = if bytes_eq name (codes "mean") then Some Mean else (if bytes_eq name (codes "max") then Some Max else None)

-- nothing, if no name is given
abbrev pub choice_of : Option Text → Option (Option Symmetry)
choice_of None = Some None
choice_of (Some name) = option_map Some (symmetry_named name)

-- the league of a table with what stands after the options
abbrev pub league_in : List Row → Option Job
league_in rows = option_map (λ choice. League choice (number_in (codes "at-most") rows) (number_in (codes "hard-weight") rows))
    (choice_of (first_of (codes "symmetric") rows))

-- the job of a command and its values
abbrev pub job_of_command : Text × List Row → Option Job
job_of_command found = if bytes_eq found.0 (codes "start") then Some Start
    else (if bytes_eq found.0 (codes "play") then option_map Play (number_in (codes "room") found.1)
    else (if bytes_eq found.0 (codes "improve") then improve_in found.1
    else (if bytes_eq found.0 (codes "search") then find_from (number_in (codes "room") found.1) (plan_in found.1)
    else (if bytes_eq found.0 (codes "report") then option_map Report (format_in found.1)
    else (if bytes_eq found.0 (codes "league") then league_in found.1
    else (if bytes_eq found.0 (codes "bound") then Some Bound else None))))))

-- the job that the words name
abbrev pub job_of_words : List Text → Option Job
job_of_words words = option_and_then job_of_command (subcommand_of program words)

-- the files that the words name
abbrev pub files_of_words : List Text → Option Files
files_of_words words = option_and_then files_of_command (subcommand_of program words)

abbrev pub beginning_of_command : Text × List Row → Option Beginning
beginning_of_command found = beginning_in found.1

-- what the words keep of the schedule at which boards begin, and what a moved game costs
abbrev pub beginning_of_words : List Text → Option Beginning
beginning_of_words words = option_and_then beginning_of_command (subcommand_of program words)

-- what a league that is made is to be called
abbrev pub title_in : List Row → Option Text
title_in rows = first_of (codes "name") rows

-- unless none can be called so
abbrev pub title_of_command : Text × List Row → Option (Option Text)
title_of_command found = if is_title (title_in found.1) then Some (title_in found.1) else None

abbrev pub title_of_words : List Text → Option (Option Text)
title_of_words words = option_and_then title_of_command (subcommand_of program words)

-- a command and its values ask for a job, for files that it can have together, for a name and for a beginning
abbrev pub asks_for_all : Option (Text × List Row) → Bool
asks_for_all found = is_some (option_and_then job_of_command found)
    && (is_some (option_and_then files_of_command found)
    && (is_some (option_and_then title_of_command found) && is_some (option_and_then beginning_of_command found)))

-- why the words are refused: by clap, or else since a value names nothing here
abbrev pub words_fault : List Text → Kinds
words_fault words =
    or_else (fault_of program words) (if asks_for_all (subcommand_of program words) then [] else InvalidValue ∷ [])

-- 1 to 16 workers, of at most a million steps
pub record IsPlanInRange (plan : SearchPlan) : Type 0 where
  pub some : 1 ≤ plan.workers
  pub few : plan.workers ≤ 16
  pub steps : plan.steps ≤ 1000000

-- 1 to 16 workers, a thousand steps to a million million and, if they are given, 1 to a million seconds
pub record IsImproveInRange (workers effort : ℕ) (seconds : Option ℕ) : Type 0 where
  pub some : 1 ≤ workers
  pub few : workers ≤ 16
  pub least : 1000 ≤ effort
  pub most : effort ≤ 1000000000000
  pub time : IfSome seconds (λ s. (1 ≤ s) × (s ≤ 1000000))

-- 1 to 78 games in a row and a weight of 1 to a million, if they are given
pub record IsLeagueInRange (at_most hard_weight : Option ℕ) : Type 0 where
  pub games : IfSome at_most (λ n. (1 ≤ n) × (n ≤ max_rounds))
  pub weight : IfSome hard_weight (λ w. (1 ≤ w) × (w ≤ 1000000))

-- each number of the job is in its range
abbrev pub IsInRange : Job → Type 0
IsInRange Start = Unit {0}
IsInRange (Play room) = room ≤ max_room
IsInRange (Improve workers seed effort seconds history) = IsImproveInRange workers effort seconds
IsInRange (Find room plan) = (room ≤ max_room) × IsPlanInRange plan
IsInRange (Report format) = Unit {0}
IsInRange (League choice at_most hard_weight) = IsLeagueInRange at_most hard_weight
IsInRange Bound = Unit {0}
