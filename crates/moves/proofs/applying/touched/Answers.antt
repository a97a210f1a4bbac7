use Rattle.moves.proofs.move_laws.EachMove.{TellsTouched, tells_touched}
use Rattle.moves.proofs.applying.touched.Goals as goal

tells : (c : goal.After-touched_by) → TellsTouched c.args.schedule.now c.args.mv c.touched_by.result
tells c =
    tells_touched c.args.schedule.now c.touched_by.ensures.round_robin c.args.mv c.requires.checked _
    c.exchange.ensures.value _ c.touched_by.ensures.teams c.touched_by.ensures.rounds

pub returns-clause-teams : goal.returns-clause-teams
returns-clause-teams c = (tells c).teams

pub returns-clause-rounds : goal.returns-clause-rounds
returns-clause-rounds c = (tells c).rounds
