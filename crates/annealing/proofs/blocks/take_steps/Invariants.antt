use Rattle.draws.specs.Draws.{stream_of_generator}
use Rattle.annealing.proofs.Steps.{AreSteps}
use Rattle.annealing.proofs.blocks.take_steps.Given as goal

abbrev pub invariant-loop-step : goal.invariant-loop-step
invariant-loop-step l =
    AreSteps l.block l._step l.fn.board (stream_of_generator l.fn.generator) l.cost l.tally (stream_of_generator l.generator) l.board
