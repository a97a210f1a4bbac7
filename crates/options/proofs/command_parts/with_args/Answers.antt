use Rattle.std.proofs.Common.{◌+◌, ◌∙◌, ap, ap₂, arith, drop, map, refl, sym}
use Rattle.std.specs.Prelude.{fold}
use Rattle.std.proofs.lemmas.List.{length-map}
use Rattle.clap.specs.Words.{App, app_of, with_rule}
use Rattle.options.specs.within.CommandLine.{rule_of_part}
use Rattle.options.proofs.CommandParts.{none_left}
use Rattle.options.proofs.WrongNumbers.{next_at}
use Rattle.options.proofs.command_parts.with_args.Goals as goal

pub loop-arg-preserved : goal.loop-arg-preserved
loop-arg-preserved c =
    let args = c.args.args.now in
    let i = c.loop-arg.arg-index in
    let more = c.in_ok-command.ensures.shape c.arg.ensures.local ∙ ap₂ with_rule refl c.arg.ensures.rule in
    c.loop-arg.invariant
    ∙ ap (fold with_rule (app_of c.loop-arg.command)) (next_at rule_of_part args i _ _ c.loop-arg-test.true refl)
    ∙ ap (λ (a : App). fold with_rule a (drop (i + 1) (map rule_of_part args))) (sym more)

pub returns : goal.returns
returns c =
    let rules = map rule_of_part c.args.args.now in
    sym (c.loop-arg.invariant ∙ none_left with_rule rules c.loop-arg.arg-index (app_of c.loop-arg.command)
    (omega (arith, c.loop-arg-test.false, length-map c.args.args.now rule_of_part)))
