use Rattle.std.proofs.Common.{Some, None, ap, option_map}
use Rattle.std.proofs.lemmas.Result.{err_from_is_err_and}
use Rattle.commands.proofs.Improving.{ends_early}
use Rattle.commands.proofs.improve_command.improve_on.Goals as goal

pub returns-in_err-best : goal.returns-in_err-best
returns-in_err-best g c =
    let p = err_from_is_err_and c.from_residual-in_err-best.result c.from_residual-in_err-best.ensures.1 in
    rw (p.1, p.2) (ends_early g.W.Sink.held g.W.Sink.tally c.args.plan None c.args.league.now (option_map (λ b. b.now) c.args.beginning)
    c.args.sink.now c.improve.new.sink c.in_err-best.field-0.0
    (c.in_ok-league.league, c.in_ok-league.ensures.ok, c.in_err-best.ensures))

pub returns : goal.returns
returns g c = (
  c.in_ok-best.best,
  (c.in_ok-league.league, c.in_ok-league.ensures.ok, c.in_ok-best.ensures),
  ap Some (rw c.is_some.ensures at c.of.ensures),
)
