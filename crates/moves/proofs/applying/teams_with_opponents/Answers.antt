use Rattle.fixtures.proofs.ForCallers.{meets_cell}
use Rattle.moves.proofs.ejection.MetIn.{met_more, met_all}
use Rattle.moves.proofs.applying.teams_with_opponents.Goals as goal

pub loop-round-preserved : goal.loop-round-preserved
loop-round-preserved c =
    met_more c.args.schedule.now c.requires.round_robin c.args.i c.args.j c.args.rounds _ _ _ _ _ _
    c.loop-round.invariant
    c.in-Some.ensures.steps (meets_cell _ _ _ _ c.game_at.ensures.cell) c.with-found.ensures.members

pub returns : goal.returns
returns c = met_all c.args.schedule.now c.args.i c.args.j c.args.rounds _ _ c.loop-round.invariant
    c.in-None.ensures.steps.0
