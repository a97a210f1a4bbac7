use Rattle.std.proofs.Common.{◌≡◌, ◌∙◌, [], None, Some, ap, codes, map}
use Rattle.std.proofs.lemmas.Result.{IfOk-weaker}
use Rattle.std.specs.Option.{option_map_or}
use Rattle.clap.specs.Words.{all_of, found_of, rows_of}
use Rattle.clap.proofs.WalkLemmas.{raw_values-rows}
use Rattle.options.specs.Beginnings.{with_games}
use Rattle.options.proofs.beginning.games_in.Goals as goal

pub returns-in-Some : goal.returns-in-Some
returns-in-Some c =
    let given : Some (map (λ text. text.now) c.in-Some.texts.now) ≡ all_of (codes "keep-game") (rows_of (found_of c.args.values.now)) =
    (rw c.in-Some.is at c.get_raw.ensures) ∙ raw_values-rows (found_of c.args.values.now) (codes "keep-game") in
    IfOk-weaker c.games_of_texts.result _ _ (λ games same. same ∙ ap (λ o. option_map_or (with_games []) o (Some [])) given)
    c.games_of_texts.ensures

pub returns-in-None : goal.returns-in-None
returns-in-None c =
    let given : None ≡ all_of (codes "keep-game") (rows_of (found_of c.args.values.now)) =
    (rw c.in-None.is at c.get_raw.ensures) ∙ raw_values-rows (found_of c.args.values.now) (codes "keep-game") in
    ap Some c.new.ensures.items ∙ ap (λ o. option_map_or (with_games []) o (Some [])) given
