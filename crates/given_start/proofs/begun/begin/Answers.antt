use Rattle.std.proofs.Common.{sym, ◌∙◌, ap}
use Rattle.given_start.specs.Begun.{begun, kept_if}
use Rattle.given_start.proofs.Keeping.{ok_wanted, err_wanted}
use Rattle.given_start.proofs.begun.begin.Goals as goal

pub returns-in-Ok-clause-begun : goal.returns-in-Ok-clause-begun
unfolding begun
returns-in-Ok-clause-begun c = ok_wanted _ _ (ap (kept_if c.args.beginning.now) c.in-Ok.ensures ∙ sym c.kept_from.ensures)

pub returns-in-Ok-clause-fault : goal.returns-in-Ok-clause-fault
unfolding begun
returns-in-Ok-clause-fault c = err_wanted _ _ (ap (kept_if c.args.beginning.now) c.in-Ok.ensures ∙ sym c.kept_from.ensures)

pub returns-in-Err-clause-fault : goal.returns-in-Err-clause-fault
unfolding begun
returns-in-Err-clause-fault c = λ other. ap (kept_if c.args.beginning.now) (c.in-Err.ensures other)
