use Rattle.std.proofs.Common.{◌∙◌, refl, rules}
use Rattle.clap.specs.Words.{found_of}
use Rattle.clap.proofs.WalkLemmas.{first_value-rows}
use Rattle.options.proofs.flag_args.FlagArg.is_given.Goals as goal

pub returns-in-Some : goal.returns-in-Some
returns-in-Some c =
    let first = (rw c.in-Some.is at c.get_str.ensures) ∙ first_value-rows (found_of c.args.values.now) c.args.self.now.name.now in
    rw (← first) (search rules)

pub returns-in-None : goal.returns-in-None
returns-in-None c =
    let first = (rw c.in-None.is at c.get_str.ensures) ∙ first_value-rows (found_of c.args.values.now) c.args.self.now.name.now in
    rw (← first) refl
