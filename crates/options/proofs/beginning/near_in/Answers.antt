use Rattle.std.proofs.Common.{◌≡◌, ◌∙◌, Some, None, ap, codes}
use Rattle.std.specs.Option.{option_map_or}
use Rattle.clap.specs.Words.{first_of, found_of, rows_of}
use Rattle.clap.proofs.WalkLemmas.{first_value-rows}
use Rattle.options.specs.Beginnings.{near_of_text}
use Rattle.options.proofs.beginning.near_in.Goals as goal

pub returns-in-Some-clause-value : goal.returns-in-Some-clause-value
returns-in-Some-clause-value c =
    let given : Some c.in-Some.text.now ≡ first_of (codes "near") (rows_of (found_of c.args.values.now)) =
    (rw c.in-Some.is at c.get_str.ensures) ∙ first_value-rows (found_of c.args.values.now) (codes "near") in
    c.near_of_text.ensures.value ∙ ap near_of_text c.as_bytes.ensures.value ∙ ap (λ o. option_map_or near_of_text o (Some 0)) given

pub returns-in-None-clause-value : goal.returns-in-None-clause-value
returns-in-None-clause-value c =
    let given : None ≡ first_of (codes "near") (rows_of (found_of c.args.values.now)) =
    (rw c.in-None.is at c.get_str.ensures) ∙ first_value-rows (found_of c.args.values.now) (codes "near") in
    ap (λ o. option_map_or near_of_text o (Some 0)) given
