use Rattle.std.proofs.Common.{◌≡◌, ◌∙◌, Some, None, ap, codes}
use Rattle.std.specs.Option.{option_map_or}
use Rattle.clap.specs.Words.{first_of, found_of, rows_of}
use Rattle.clap.proofs.WalkLemmas.{first_value-rows}
use Rattle.options.specs.Beginnings.{rounds_of_text}
use Rattle.options.proofs.beginning.rounds_in.Goals as goal

pub returns-in-Some : goal.returns-in-Some
returns-in-Some c =
    let given : Some c.in-Some.text.now ≡ first_of (codes "keep") (rows_of (found_of c.args.values.now)) =
    (rw c.in-Some.is at c.get_str.ensures) ∙ first_value-rows (found_of c.args.values.now) (codes "keep") in
    c.rounds_of_text.ensures ∙ ap rounds_of_text c.as_bytes.ensures.value ∙ ap (λ o. option_map_or rounds_of_text o (Some 0)) given

pub returns-in-None : goal.returns-in-None
returns-in-None c =
    let given : None ≡ first_of (codes "keep") (rows_of (found_of c.args.values.now)) =
    (rw c.in-None.is at c.get_str.ensures) ∙ first_value-rows (found_of c.args.values.now) (codes "keep") in
    ap Some c.empty.ensures.value ∙ ap (λ o. option_map_or rounds_of_text o (Some 0)) given
