use Rattle.draws.specs.Draws.{drawn_among}
use Rattle.annealing.specs.within.Blocks.{trial_drawn}
use Rattle.annealing.proofs.Steps.{trial_from-by}
use Rattle.annealing.proofs.blocks.draw_trial.Goals as goal

pub returns-clause-drawn : goal.returns-clause-drawn
unfolding trial_drawn
returns-clause-drawn c =
    let draws = c.args.block.draws in
    trial_from-by (drawn_among draws.teams draws.kinds.now draws.rounds.now) c.args.block _ c.next_u32.result c.threshold-rise.result _
    c.draw_among-mv.result _ c.next_u32.ensures c.threshold-rise.ensures c.draw_among-mv.ensures.drawn
