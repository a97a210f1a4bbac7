use Rattle.std.proofs.Common.{◌≡◌, ◌∙◌, ap, map, rules}
use Rattle.std.proofs.lemmas.Result.{IfOk-weaker}
use Rattle.std.specs.Prelude.{fold}
use Rattle.clap.specs.Words.{App, app_of, new_app, with_rule}
use Rattle.options.specs.within.CommandLine.{rule_of_part}
use Rattle.options.proofs.command_parts.CommandParts.command.Goals as goal

pub returns : goal.returns
returns c =
    let bare : app_of c.after_help-command.result ≡ new_app c.args.self.now.name.now = search rules in
    IfOk-weaker c.with_args.result _ _
    (λ r same. same ∙ ap (λ (a : App). fold with_rule a (map rule_of_part c.args.self.now.args.now)) bare) c.with_args.ensures
