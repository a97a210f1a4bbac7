-- What private functions alone need beside specs/Files.antt and specs/FileClash.antt.
use Rattle.std.specs.Prelude.{◌++◌, [], Option, codes, if◌then◌else◌, option_map, unwrap_or}
use Rattle.std.specs.Borrow.{Bor}
use Rattle.clap.specs.Words.{Text}
use Rattle.options.specs.Files.{Files, is_input, is_same}
use Rattle.options.specs.FileClash.{role_word, words_of_same}
use Rattle.options.specs.declared.file_clash.FileRole.{FileRole}
use Rattle.options.specs.declared.file_clash.FileRole.TheVariants.{League, From, Output, Log}

-- the text of a word that was given
abbrev pub written : Option (Bor Text) → Option Text
written = option_map (λ word. word.now)

abbrev pub input_words : FileRole → Text
input_words role = role_word role ++ codes " names a file to be written, and - is standard input"

-- two words with one name
abbrev pub same_words : FileRole → FileRole → Option Text → Text
same_words role other word = words_of_same role (unwrap_or word []) other (unwrap_or word [])

-- why the files to be written are refused: the first of what `miswrites` names
abbrev pub output_words : Files → Text
output_words files = if is_input files.output then input_words Output
    else (if is_input files.log then input_words Log
    else (if is_same files.output files.league then same_words Output League files.output
    else (if is_same files.log files.league then same_words Log League files.log
    else (if is_same files.log files.from then same_words Log From files.log
    else same_words Log Output files.log))))
