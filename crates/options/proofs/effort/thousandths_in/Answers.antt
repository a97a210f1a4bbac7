use Rattle.std.proofs.Common.{◌≡◌, ◌∙◌, Some, None, ap, codes, option_and_then}
use Rattle.clap.specs.Words.{first_of, found_of, rows_of}
use Rattle.clap.proofs.WalkLemmas.{first_value-rows}
use Rattle.options.specs.Effort.{thousandths_of_text}
use Rattle.options.proofs.effort.thousandths_in.Goals as goal

pub returns-in-Some-clause-value : goal.returns-in-Some-clause-value
returns-in-Some-clause-value c =
    let given : Some c.in-Some.text.now ≡ first_of (codes "effort") (rows_of (found_of c.args.values.now)) =
    (rw c.in-Some.is at c.get_str.ensures) ∙ first_value-rows (found_of c.args.values.now) (codes "effort") in
    c.thousandths_of_text.ensures.value ∙ ap (option_and_then thousandths_of_text) given

pub returns-in-None-clause-value : goal.returns-in-None-clause-value
returns-in-None-clause-value c =
    let given : None ≡ first_of (codes "effort") (rows_of (found_of c.args.values.now)) =
    (rw c.in-None.is at c.get_str.ensures) ∙ first_value-rows (found_of c.args.values.now) (codes "effort") in
    ap (option_and_then thousandths_of_text) given
