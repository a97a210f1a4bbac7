use Rattle.std.proofs.Common.{ap}
use Rattle.annealing.specs.declared.chain.Chain.{Chain}
use Rattle.improvement.proofs.Lines.{state_of}
use Rattle.improvement.proofs.legs.WaitingLeg.begin.Goals as goal

pub returns-clause-running : goal.returns-clause-running
returns-clause-running g c = λ legs waiting.
    state_of c.args.setting.start.now legs c.args.self.assignment c.args.weights _ c.args.self.board c.run-state.result waiting.begins
    (ap (λ (chain : Chain). chain.board) c.in_ok-chain.ensures) (rw c.plan-plan.ensures at c.run-state.ensures)
