use Rattle.std.proofs.Common.{◌∙◌, codes}
use Rattle.std.proofs.lemmas.Result.{IfOk-weaker}
use Rattle.clap.specs.Words.{found_of}
use Rattle.clap.proofs.WalkLemmas.{first_value-rows}
use Rattle.options.proofs.league_args.title_in.Goals as goal

pub returns : goal.returns
returns c =
    let named = c.get_str.ensures ∙ first_value-rows (found_of c.args.values.now) (codes "name") in
    IfOk-weaker c.owned.result _ _ (λ title is. is ∙ named) c.owned.ensures
