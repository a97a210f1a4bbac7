use Rattle.std.proofs.Common.{◌+◌, ◌∙◌, ap, arith, drop, map, refl, sym}
use Rattle.std.specs.Borrow.{Bor}
use Rattle.std.specs.Prelude.{fold}
use Rattle.std.proofs.lemmas.List.{length-map}
use Rattle.clap.specs.Words.{App, Text, app_of}
use Rattle.options.specs.within.CommandLine.{with_named}
use Rattle.options.proofs.CommandParts.{none_left}
use Rattle.options.proofs.WrongNumbers.{next_at}
use Rattle.options.proofs.commands.with_commands.Goals as goal

pub loop-name-preserved : goal.loop-name-preserved
loop-name-preserved c =
    let names = c.args.names.now in
    let i = c.loop-name.name-index in
    c.loop-name.invariant
    ∙ ap (fold with_named (app_of c.loop-name.program)) (next_at (λ (name : Bor Text). name.now) names i _ _ c.loop-name-test.true refl)
    ∙ ap (λ (a : App). fold with_named a (drop (i + 1) (map (λ (name : Bor Text). name.now) names))) (sym c.in_ok-program.ensures)

pub returns : goal.returns
returns c =
    let names = map (λ (name : Bor Text). name.now) c.args.names.now in
    sym (c.loop-name.invariant ∙ none_left with_named names c.loop-name.name-index (app_of c.loop-name.program)
    (omega (arith, c.loop-name-test.false, length-map c.args.names.now (λ (name : Bor Text). name.now))))
