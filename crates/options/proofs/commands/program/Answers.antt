use Rattle.std.proofs.Common.{◌≡◌, [], ap, map, rules, ◌∙◌}
use Rattle.std.proofs.lemmas.Result.{IfOk-weaker}
use Rattle.std.specs.Prelude.{fold}
use Rattle.clap.specs.Simple.{app_of_fields}
use Rattle.clap.specs.Words.{App, app_of}
use Rattle.options.specs.CommandLine.{CommandForm, commands, program_of}
use Rattle.options.specs.within.CommandLine.{with_named}
use Rattle.options.proofs.commands.program.Goals as goal

pub returns : goal.returns
returns c =
    let bare : app_of c.subcommand_required-bare.result ≡ program_of [] = search rules in
    let whole = c.in_ok-whole.ensures ∙ ap (λ (a : App). fold with_named a (map (λ (c : CommandForm). c.name) commands)) bare in
    IfOk-weaker c.bin_name.result _ _ (λ m named. ap app_of_fields named.0 ∙ whole) c.bin_name.ensures
