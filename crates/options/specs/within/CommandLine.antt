-- What private functions alone need beside specs/CommandLine.antt.
use Rattle.std.specs.Prelude.{◌≡◌, Some, None, Option, List, [], ◌∷◌, fold, map, true, false}
use Rattle.std.specs.Prelude.{◌⊎◌, codes, if◌then◌else◌, is_some, not, option_map}
use Rattle.std.specs.Option.{option_map_or}
use Rattle.std.specs.Str.{bytes_eq}
use Rattle.clap.specs.Words.{App, Row, Rule, Text, new_app, one_of, with_rule, with_subcommand}
use Rattle.clap.specs.ValueTests.{accepts}
use Rattle.clap.specs.declared.builder.value_parser.ValueParser.TheVariants as parsers
use Rattle.options.specs.declared.command_parts.CommandArg.{CommandArg}
use Rattle.options.specs.declared.command_parts.CommandArg.TheVariants as parts
use Rattle.options.specs.declared.command_parts.CommandParts.{CommandParts}
use Rattle.options.specs.declared.default_args.DefaultArg.{DefaultArg}
use Rattle.options.specs.declared.number_args.NumberArg.{NumberArg}
use Rattle.options.specs.CommandLine.{OptionForm, CommandForm, app_of_command, commands, flag, lettered, number_option, repeated, rule_of, text_option, word}
use Rattle.options.specs.CommandLine.{bound_command, improve_command, league_command, play_command, report_command, search_command, start_command}

-- an option as the program has it
abbrev pub form_of : NumberArg → OptionForm
form_of o = number_option o.name.now o.least o.most (option_map (λ text. text.now) o.default)

abbrev pub form_of_default : DefaultArg → OptionForm
form_of_default o = record { name = o.name.now; parser = parsers.String; default = Some o.default.now }

-- a word or an option, and a command, as the program has them
abbrev pub rule_of_part : CommandArg → Rule
rule_of_part (parts.Word text) = word text.name.now
rule_of_part (parts.Text text) = text_option text.name.now
rule_of_part (parts.Lettered text letter) = lettered letter (text_option text.name.now)
rule_of_part (parts.Repeated text) = repeated (text_option text.name.now)
rule_of_part (parts.Default o) = rule_of (form_of_default o)
rule_of_part (parts.Number o) = rule_of (form_of o)
rule_of_part (parts.Flag o) = flag o.name.now

abbrev pub app_of_parts : CommandParts → App
app_of_parts c = fold with_rule (new_app c.name.now) (map rule_of_part c.args.now)

-- clap takes the option's text, which is there if it has a default
abbrev pub HasValue : List Row → OptionForm → Type 0
HasValue rows o = option_map_or (accepts false o.parser) (one_of o.name rows) (not (is_some o.default)) ≡ true

abbrev pub HasValues : List Row → List OptionForm → Type 0
HasValues rows [] = Unit {0}
HasValues rows (o ∷ os) = HasValue rows o × HasValues rows os

-- what a parse that succeeds gives: a command of the program, with a value for each of its options that has a default
abbrev pub NamesOneOf : List CommandForm → Text × List Row → Type 0
NamesOneOf [] found = ⊥
NamesOneOf (c ∷ cs) found =
    ((found.0 ≡ c.name) × HasValues found.1 c.options) ⊎ NamesOneOf cs found

abbrev pub NamesACommand : Option (Text × List Row) → Type 0
NamesACommand None = ⊥
NamesACommand (Some found) = NamesOneOf commands found

-- the command of this name, and `start` for any other
abbrev pub form_named : Text → CommandForm
form_named name = if bytes_eq name (codes "play") then play_command
    else (if bytes_eq name (codes "improve") then improve_command
    else (if bytes_eq name (codes "search") then search_command
    else (if bytes_eq name (codes "report") then report_command
    else (if bytes_eq name (codes "league") then league_command
    else (if bytes_eq name (codes "bound") then bound_command else start_command)))))

-- the program with the command of this name too
abbrev pub with_named : App → Text → App
with_named app name = with_subcommand app (app_of_command (form_named name)).top
