use Rattle.std.proofs.Common.{refl, sym, ◌∙◌, ap}
use Rattle.std.specs.Int.{from_bool}
use Rattle.draws.specs.Draws.{stream_of_generator}
use Rattle.annealing.proofs.Steps.{AreSteps-none, AreSteps-made, AreSteps-left}
use Rattle.annealing.proofs.blocks.take_steps.Goals as goal
use Rattle.annealing.proofs.blocks.take_steps.Goals.{in-Some, in-None}

pub loop-step-init : goal.loop-step-init
loop-step-init c =
    AreSteps-none c.args.block c.args.board.now (stream_of_generator c.args.generator.now) c.cost-cost.result _ c.cost-cost.ensures.value refl

pub loop-step-preserved : goal.loop-step-preserved
loop-step-preserved c =
    let flag = c.from.ensures ∙ ap from_bool c.counts_as_feasible.ensures in
    elim c.match-try_move.branch [
      | in-Some w ↦ AreSteps-made c.try_move.new.self c.draw_trial-trial.result (stream_of_generator c.draw_trial-trial.new.generator) w.in-Some.after
          c.match-try_move.cost c.from.result c.match-try_move.tally c.loop-step.invariant c.requires.league c.draw_trial-trial.ensures.kind
          c.draw_trial-trial.ensures.drawn flag (sym w.in-Some.is ∙ c.try_move.ensures.cost) c.try_move.ensures.history w.cost-is w.tally-is
      | in-None w ↦ AreSteps-left c.try_move.new.self c.draw_trial-trial.result (stream_of_generator c.draw_trial-trial.new.generator)
          c.match-try_move.cost c.from.result c.match-try_move.tally c.loop-step.invariant
          c.draw_trial-trial.ensures.drawn flag (sym w.in-None.is ∙ c.try_move.ensures.cost) c.try_move.ensures.history w.cost-is w.tally-is
    ]
