use Rattle.std.proofs.Common.{◌≡◌, ◌∙◌, [], None, Some, ap, codes, map}
use Rattle.std.specs.Option.{option_map_or}
use Rattle.clap.specs.Words.{all_of, found_of, rows_of}
use Rattle.clap.proofs.WalkLemmas.{raw_values-rows}
use Rattle.options.specs.within.Refusals.{first_wrong}
use Rattle.options.proofs.refusals.wrong_game.Goals as goal

pub returns-in-Some : goal.returns-in-Some
returns-in-Some c =
    let given : Some (map (λ text. text.now) c.in-Some.texts.now) ≡ all_of (codes "keep-game") (rows_of (found_of c.args.values.now)) =
    (rw c.in-Some.is at c.get_raw.ensures) ∙ raw_values-rows (found_of c.args.values.now) (codes "keep-game") in
    c.first_wrong.ensures ∙ ap (λ o. option_map_or first_wrong o []) given

pub returns-in-None : goal.returns-in-None
returns-in-None c =
    let given : None ≡ all_of (codes "keep-game") (rows_of (found_of c.args.values.now)) =
    (rw c.in-None.is at c.get_raw.ensures) ∙ raw_values-rows (found_of c.args.values.now) (codes "keep-game") in
    ap (λ o. option_map_or first_wrong o []) given
