use Rattle.std.proofs.Common.{sym, ◌∙◌}
use Rattle.moves.proofs.move_laws.EachMove.{TellsTouched, tells_touched, differs_by}
use Rattle.moves.proofs.applying.apply.Goals as goal

tells : (c : goal.After-make) → TellsTouched c.args.schedule.now c.args.mv c.touched_by-touched.result
tells c =
    tells_touched c.args.schedule.now c.touched_by-touched.ensures.round_robin c.args.mv c.requires.checked _
    c.exchange-exchange.ensures.value _ c.touched_by-touched.ensures.teams c.touched_by-touched.ensures.rounds

pub returns-clause-moved : goal.returns-clause-moved
returns-clause-moved c = c.make.ensures.made ∙ sym c.exchange-exchange.ensures.is_move.is

pub returns-clause-teams : goal.returns-clause-teams
returns-clause-teams c = (tells c).teams

pub returns-clause-rounds : goal.returns-clause-rounds
returns-clause-rounds c = (tells c).rounds

pub returns-clause-differs : goal.returns-clause-differs
returns-clause-differs c =
    differs_by c.args.schedule.now _ c.touched_by-touched.ensures.round_robin c.args.mv c.requires.checked
    (returns-clause-moved c) _ (tells c)
