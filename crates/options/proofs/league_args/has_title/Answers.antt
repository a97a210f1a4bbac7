use Rattle.std.proofs.Common.{◌∙◌, ap, codes}
use Rattle.clap.specs.Words.{found_of}
use Rattle.clap.proofs.WalkLemmas.{first_value-rows}
use Rattle.league.specs.Labels.{is_title}
use Rattle.options.proofs.league_args.has_title.Goals as goal

pub returns : goal.returns
returns c =
    let title = c.get_str-title.ensures ∙ first_value-rows (found_of c.args.values.now) (codes "name") in
    c.can_be_called.ensures ∙ ap is_title title
