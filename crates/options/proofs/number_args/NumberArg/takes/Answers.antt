use Rattle.options.proofs.WrongNumbers.{by_test}
use Rattle.options.proofs.number_args.NumberArg.takes.Goals as goal

pub returns : goal.returns
returns c = by_test c.is_number_in.result c.args.self.now.least c.args.self.now.most c.args.word.now c.is_number_in.ensures
