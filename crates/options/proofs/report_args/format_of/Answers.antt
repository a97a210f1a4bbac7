use Rattle.std.proofs.Common.{◌∙◌, codes, refl}
use Rattle.clap.specs.Words.{found_of}
use Rattle.clap.proofs.WalkLemmas.{first_value-rows}
use Rattle.options.proofs.report_args.format_of.Goals as goal

pub returns-in-Some : goal.returns-in-Some
returns-in-Some c =
    let found = found_of c.args.values.now in
    let name = (rw c.in-Some.is at c.get_str.ensures) ∙ first_value-rows found (codes "format") in
    let separator = c.get_str-separator.ensures ∙ first_value-rows found (codes "separator") in
    c.format_named.ensures ∙ rw (← name, separator, c.is_given-has_mark.ensures) refl

pub returns-in-None : goal.returns-in-None
returns-in-None c =
    let found = found_of c.args.values.now in
    let name = (rw c.in-None.is at c.get_str.ensures) ∙ first_value-rows found (codes "format") in
    rw (← name) refl
