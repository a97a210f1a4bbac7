use Rattle.std.proofs.Common.{◌∙◌, codes, refl}
use Rattle.clap.specs.Words.{found_of}
use Rattle.clap.proofs.WalkLemmas.{first_value-rows}
use Rattle.options.proofs.league_args.league_of.Goals as goal

pub returns-in-Some-clause-job : goal.returns-in-Some-clause-job
returns-in-Some-clause-job c =
    let name = c.get_str.ensures ∙ first_value-rows (found_of c.args.values.now) (codes "symmetric") in
    rw (← name, ← c.choice_of.ensures, c.in-Some.is, c.at_most_of.ensures.number, c.hard_weight_of.ensures.number) refl

pub returns-in-None-clause-job : goal.returns-in-None-clause-job
returns-in-None-clause-job c =
    let name = c.get_str.ensures ∙ first_value-rows (found_of c.args.values.now) (codes "symmetric") in
    rw (← name, ← c.choice_of.ensures, c.in-None.is) refl
