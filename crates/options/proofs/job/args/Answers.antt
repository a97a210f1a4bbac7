use Rattle.std.proofs.Common.{◌≡◌, ◌⊎◌, ◌∙◌, [], ap, false, map, option_and_then, option_map, string_bytes, subst, sym}
use Rattle.clap.specs.Words.{App, fault_of, is_simple, is_simple_and_free, subcommand_of, subcommand_rows_of}
use Rattle.clap.specs.Kinds.{HasKind}
use Rattle.options.specs.CommandLine.{asks_for_all, beginning_of_command, job_of_command, program, title_of_command, words_fault}
use Rattle.options.specs.within.CommandLine.{NamesACommand}
use Rattle.options.specs.Beginnings.{beginning_of}
use Rattle.options.specs.Files.{files_of, files_of_command}
use Rattle.options.specs.declared.refusals.Refusal.TheVariants.{Memory}
use Rattle.options.proofs.NamedCommand.{names_a_command}
use Rattle.options.proofs.WordsFault.{asks_for, refusal_told, same_kind, still_refused, taken}
use Rattle.options.proofs.job.args.Goals as goal

pub request_of-requires : goal.request_of-requires
request_of-requires c =
    let words = map string_bytes c.args.words.now in
    let is_program = c.in-Ok.ensures in
    let parse = c.in-Ok-try_get_matches_from.ensures in
    let no_fault = subst (λ (a : App). fault_of a words ≡ []) is_program (parse.kinds (ap is_simple_and_free is_program)) in
    let command = (parse.matches (ap is_simple is_program)).1 ∙ ap (λ a. subcommand_of a words) is_program in
    subst NamesACommand (sym command) (names_a_command words no_fault)

pub returns-in-Ok-request_of-clause-fault : goal.returns-in-Ok-request_of-clause-fault
returns-in-Ok-request_of-clause-fault c =
    let words = map string_bytes c.args.words.now in
    let is_program = c.in-Ok.ensures in
    let parse = c.in-Ok-try_get_matches_from.ensures in
    let no_fault = subst (λ (a : App). fault_of a words ≡ []) is_program (parse.kinds (ap is_simple_and_free is_program)) in
    let command = (parse.matches (ap is_simple is_program)).1 ∙ ap (λ a. subcommand_of a words) is_program in
    let asked = c.in-Ok-request_of.ensures in
    let request = c.in-Ok-request_of.request in
    let all = asks_for (subcommand_rows_of c.in-Ok-try_get_matches_from.matches) request.job (files_of request.files)
    (option_map string_bytes request.title) (beginning_of request.beginning) asked.job asked.files asked.title asked.beginning in
    taken (fault_of program words) (asks_for_all (subcommand_of program words)) no_fault
    (ap asks_for_all (sym command) ∙ all)

pub returns-in-Ok-request_of-clause-job : goal.returns-in-Ok-request_of-clause-job
returns-in-Ok-request_of-clause-job c =
    let words = map string_bytes c.args.words.now in
    let is_program = c.in-Ok.ensures in
    let parse = c.in-Ok-try_get_matches_from.ensures in
    let command = (parse.matches (ap is_simple is_program)).1 ∙ ap (λ a. subcommand_of a words) is_program in
    sym (ap (option_and_then job_of_command) command) ∙ c.in-Ok-request_of.ensures.job

pub returns-in-Ok-request_of-clause-files : goal.returns-in-Ok-request_of-clause-files
returns-in-Ok-request_of-clause-files c =
    let words = map string_bytes c.args.words.now in
    let is_program = c.in-Ok.ensures in
    let parse = c.in-Ok-try_get_matches_from.ensures in
    let command = (parse.matches (ap is_simple is_program)).1 ∙ ap (λ a. subcommand_of a words) is_program in
    sym (ap (option_and_then files_of_command) command) ∙ c.in-Ok-request_of.ensures.files

pub returns-in-Ok-request_of-clause-beginning : goal.returns-in-Ok-request_of-clause-beginning
returns-in-Ok-request_of-clause-beginning c =
    let words = map string_bytes c.args.words.now in
    let is_program = c.in-Ok.ensures in
    let parse = c.in-Ok-try_get_matches_from.ensures in
    let command = (parse.matches (ap is_simple is_program)).1 ∙ ap (λ a. subcommand_of a words) is_program in
    sym (ap (option_and_then beginning_of_command) command) ∙ c.in-Ok-request_of.ensures.beginning

pub returns-in-Ok-request_of-clause-title : goal.returns-in-Ok-request_of-clause-title
returns-in-Ok-request_of-clause-title c =
    let words = map string_bytes c.args.words.now in
    let is_program = c.in-Ok.ensures in
    let parse = c.in-Ok-try_get_matches_from.ensures in
    let command = (parse.matches (ap is_simple is_program)).1 ∙ ap (λ a. subcommand_of a words) is_program in
    sym (ap (option_and_then title_of_command) command) ∙ c.in-Ok-request_of.ensures.title

pub returns-in-Ok-try_get_matches_from-clause-fault :
    goal.returns-in-Ok-try_get_matches_from-clause-fault
returns-in-Ok-try_get_matches_from-clause-fault c =
    let words = map string_bytes c.args.words.now in
    let is_program = c.in-Ok.ensures in
    let parse = c.in-Ok-try_get_matches_from.ensures in
    let no_fault = subst (λ (a : App). fault_of a words ≡ []) is_program (parse.kinds (ap is_simple_and_free is_program)) in
    let command = (parse.matches (ap is_simple is_program)).1 ∙ ap (λ a. subcommand_of a words) is_program in
    let refusal = subst (λ found. (c.in-Err-request_of.refusal ≡ Memory) ⊎ (asks_for_all found ≡ false)) command
    (rw c.in-Err-request_of.is at c.request_of.ensures.refused) in
    refusal_told (fault_of program words) (asks_for_all (subcommand_of program words)) c.in-Err-request_of.refusal c.refused.result
    no_fault refusal c.refused.ensures.kind c.refused.ensures.memory

pub returns-clause-fault : goal.returns-clause-fault
returns-clause-fault c =
    let words = map string_bytes c.args.words.now in
    let is_program = c.in-Ok.ensures in
    let parse = c.in-Err-try_get_matches_from.ensures in
    let told = subst (λ (a : App). HasKind (fault_of a words) c.in-Err-try_get_matches_from.error) is_program
    (parse.kinds (ap is_simple_and_free is_program)) in
    same_kind (words_fault words) c.in-Err-try_get_matches_from.error c.with_wanted.result
    (still_refused (fault_of program words) _ c.in-Err-try_get_matches_from.error told) c.with_wanted.ensures
