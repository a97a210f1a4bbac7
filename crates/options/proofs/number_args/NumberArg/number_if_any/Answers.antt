use Rattle.clap.specs.Words.{found_of}
use Rattle.options.proofs.NumberLemmas.{number_read}
use Rattle.options.proofs.number_args.NumberArg.number_if_any.Goals as goal

pub returns : goal.returns
returns c =
    let is = number_read c.args.self.now (found_of c.args.values.now) _ c.requires c.get_one.ensures.none c.get_one.ensures.value in
    record { number = is.number; has_default = is.some; range = is.range }
