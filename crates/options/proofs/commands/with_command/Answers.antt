use Rattle.std.proofs.Common.{ap, ◌∙◌}
use Rattle.std.proofs.lemmas.Result.{IfOk-weaker}
use Rattle.clap.specs.Words.{App, app_of, with_subcommand}
use Rattle.clap.proofs.SimpleLemmas.{plain_fields}
use Rattle.options.specs.within.CommandLine.{form_named}
use Rattle.options.proofs.CommandParts.{is_plain}
use Rattle.options.proofs.commands.with_command.Goals as goal

pub returns : goal.returns
returns c =
    let is_command = c.in_ok-command.ensures in
    let plain = plain_fields c.in_ok-command.command
    (ap (λ (a : App). a.top.is_plain) is_command ∙ is_plain (form_named c.args.name.now)) in
    IfOk-weaker c.subcommand.result _ _
    (λ m added. added.shape plain.globals ∙ ap (with_subcommand (app_of c.args.program)) (ap (λ (a : App). a.top) is_command))
    c.subcommand.ensures
