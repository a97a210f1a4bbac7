-- Why words are refused that clap takes: the first of the reasons, in the order in which they are looked for.
use Rattle.std.specs.Prelude.{List, [], ◌∷◌, Option, Some, None, codes, if◌then◌else◌, is_some}
use Rattle.std.specs.Option.{option_map_or}
use Rattle.std.specs.Str.{bytes_eq}
use Rattle.clap.specs.Words.{Row, Text, all_of}
use Rattle.options.specs.Beginnings.{game_of_text, games_in, near_in, rounds_in}
use Rattle.options.specs.CommandLine.{job_of_command, title_in}
use Rattle.options.specs.Files.{files_in, miswrites, reads_twice}
use Rattle.league.specs.Labels.{is_title}
use Rattle.options.specs.declared.refusals.Refusal.{Refusal}
use Rattle.options.specs.declared.refusals.Refusal.TheVariants.{Effort, Format, Input, Output, Name, Keep, KeepGame, Near}

-- why the values keep nothing of a start
abbrev pub beginning_refusal : List Row → Option Refusal
beginning_refusal rows = if is_some (rounds_in rows)
    then (if is_some (near_in rows) then (if is_some (games_in rows) then None else Some KeepGame) else Some Near)
    else Some Keep

-- why the values of a command that names a job are refused
abbrev pub values_refusal : Text × List Row → Option Refusal
values_refusal found = if reads_twice found.0 (files_in found.1) then Some Input
    else (if miswrites (files_in found.1) then Some Output
    else (if is_title (title_in found.1) then beginning_refusal found.1 else Some Name))

-- why a command names no job
abbrev pub job_refusal : Text → Refusal
job_refusal command = if bytes_eq command (codes "improve") then Effort else Format

abbrev pub refusal_of : Text × List Row → Option Refusal
refusal_of found = if is_some (job_of_command found) then values_refusal found else Some (job_refusal found.0)

-- the first of the texts that is no game
abbrev pub first_wrong : List Text → Text
first_wrong [] = []
first_wrong (text ∷ texts) = if is_some (game_of_text text) then first_wrong texts else text

abbrev pub wrong_game : List Row → Text
wrong_game rows = option_map_or first_wrong (all_of (codes "keep-game") rows) []
