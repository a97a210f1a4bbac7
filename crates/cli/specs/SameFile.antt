-- Which of the files that words name are one.
use Rattle.std.specs.Prelude.{ℕ, List, ◌==◌, ◌&&◌, Bool, false, Option, Some, None, codes, if◌then◌else◌, unwrap_or}
use Rattle.std.specs.Str.{bytes_eq}
use Rattle.options.specs.Files.{Files}
use Rattle.options.specs.declared.file_clash.FileRole.{FileRole}
use Rattle.options.specs.declared.file_clash.FileRole.TheVariants.{League, From, Output, Log}
use Rattle.cli.specs.declared.same_file.Clash.{Clash}
use Rattle.cli.specs.declared.same_file.Identities.{Identities}
use Rattle.cli.specs.declared.same_file.Identity.{Identity}
use Rattle.cli.specs.declared.same_file.Identity.TheVariants.{Present, Absent}
use Rattle.cli.specs.declared.same_file.Node.{Node}

abbrev pub is_one_node : Node → Node → Bool
is_one_node node other = node.device == other.device && node.number == other.number

-- both are one file: it is there, under one number of one device, or it isn't yet, and would have one name in one folder
abbrev pub is_one : Identity → Identity → Bool
is_one (Present node) (Present other) = is_one_node node other
is_one (Absent folder name) (Absent other other_name) = is_one_node folder other && bytes_eq name.now other_name.now
is_one _ _ = false

-- the first two that can't be one and are, of which one is to be written: what `miswrites` says of words, of files
abbrev pub first_clash : Identities → Option Clash
first_clash named = if is_one named.output named.league then Some (record { written = Output; other = League })
    else (if is_one named.log named.league then Some (record { written = Log; other = League })
    else (if is_one named.log named.from then Some (record { written = Log; other = From })
    else (if is_one named.log named.output then Some (record { written = Log; other = Output }) else None)))

-- the file's name by this word; what isn't named is standard input
abbrev pub name_as : FileRole → Files → List ℕ
name_as League files = unwrap_or files.league (codes "-")
name_as From files = unwrap_or files.from (codes "-")
name_as Output files = unwrap_or files.output (codes "-")
name_as Log files = unwrap_or files.log (codes "-")
