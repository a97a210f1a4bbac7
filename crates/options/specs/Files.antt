-- The files that the words of a command name. A word `-` stands for standard input.
use Rattle.std.specs.Prelude.{Bool, false, ◌&&◌, ◌||◌, not, List, Option, Some, None, codes, if◌then◌else◌, is_some, option_map, string_bytes}
use Rattle.std.specs.Option.{option_map_or}
use Rattle.std.specs.Str.{bytes_eq}
use Rattle.clap.specs.Words.{Row, Text, first_of}
use Rattle.options.specs.declared.files.FileWords.{FileWords}

-- the league's file, that of the script or schedule, that of the schedule at which boards begin, and those that are to have the best
-- schedule so far and a line for each leg
pub record Files : Type 0 where
  pub league : Option Text
  pub second : Option Text
  pub from : Option Text
  pub output : Option Text
  pub log : Option Text

abbrev pub files_of : FileWords → Files
files_of f = record {
  league = option_map string_bytes f.league;
  second = option_map string_bytes f.second;
  from = option_map string_bytes f.from;
  output = option_map string_bytes f.output;
  log = option_map string_bytes f.log;
}

-- the files that were given
abbrev pub files_in : List Row → Files
files_in rows = record {
  league = first_of (codes "league") rows;
  second = first_of (codes "second") rows;
  from = first_of (codes "from") rows;
  output = first_of (codes "output") rows;
  log = first_of (codes "log") rows;
}

-- a script or a schedule is read beside the league
abbrev pub has_second : Text → Bool
has_second command = bytes_eq command (codes "play") || bytes_eq command (codes "report")

-- the word is `-`
abbrev pub is_input : Option Text → Bool
is_input word = option_map_or (λ name. bytes_eq name (codes "-")) word false

-- the league or the text beside it is read from standard input: it is `-`, or isn't given
abbrev pub reads_input : Text → Files → Bool
reads_input command files = not (is_some files.league) || is_input files.league || is_input files.second
    || (has_second command && not (is_some files.second))

-- standard input would be read twice
abbrev pub reads_twice : Text → Files → Bool
reads_twice command files =
    (is_input files.league && is_input files.second) || (is_input files.from && reads_input command files)

-- both are given, and are the same
abbrev pub is_same : Option Text → Option Text → Bool
is_same (Some word) (Some other) = bytes_eq word other
is_same _ _ = false

-- a file that is to be written is standard input, the other one or one that is read. A schedule that boards begin at may give way to the
-- best one
abbrev pub miswrites : Files → Bool
miswrites files = is_input files.output || is_input files.log || is_same files.output files.league || is_same files.log files.league
    || is_same files.log files.from || is_same files.log files.output

-- the files of a command, if standard input is read for one text alone and each file that is to be written is one of its own
abbrev pub files_of_command : Text × List Row → Option Files
files_of_command found =
    if reads_twice found.0 (files_in found.1) || miswrites (files_in found.1) then None else Some (files_in found.1)
