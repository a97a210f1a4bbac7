use Rattle.std.proofs.Common.{◌≡◌, ℕ, ap, refl, sym, subst, arith}
use Rattle.league.specs.League.{teams}
use Rattle.draws.specs.Draws.{AreRoundsOf}
use Rattle.draws.specs.Reported.{AreReported}
use Rattle.draws.proofs.ForCallers.{reported_more, reported_none}
use Rattle.draws.specs.declared.gates.Progress.{Progress}
use Rattle.annealing.specs.within.Heats.{block_count}
use Rattle.annealing.specs.within.Progress.{IsGoing}
use Rattle.annealing.proofs.Ends.{IsAnnealed-all, IsAnnealed-heated, IsGoing-none}
use Rattle.annealing.proofs.legs.anneal.Goals as goal

pub loop-number-init : goal.loop-number-init
loop-number-init g c = record {
  going = IsGoing-none c.args.plan.leg c.args.chain.board _ refl refl refl;
  reported = reported_none _;
  within = λ some. absurd (omega arith);
}

pub take_block-requires-clause-rounds : goal.take_block-requires-clause-rounds
take_block-requires-clause-rounds g c =
    subst (λ league. AreRoundsOf (teams league) c.args.conditions.rounds.now) (sym c.loop-number.invariant.going.boards.board.league)
    c.requires.rounds

pub take_block-requires-clause-steps : goal.take_block-requires-clause-steps
take_block-requires-clause-steps g c = omega (arith, c.loop-number.invariant.going.steps)

pub take_block-requires-clause-accepted : goal.take_block-requires-clause-accepted
take_block-requires-clause-accepted g c = c.loop-number.invariant.going.accepted

pub end-requires-clause-some : goal.end-requires-clause-some
end-requires-clause-some g c =
    let more = c.in_ok-tally.ensures.goes_on c.args.chain.board c.loop-number.invariant.going in omega (arith, more.steps, c.requires.leg.steps)

pub end-requires-clause-few : goal.end-requires-clause-few
end-requires-clause-few g c =
    let more = c.in_ok-tally.ensures.goes_on c.args.chain.board c.loop-number.invariant.going in omega (arith, more.steps)

pub returns-then-may_end-clause-annealed : goal.returns-then-may_end-clause-annealed
returns-then-may_end-clause-annealed g c =
    IsAnnealed-heated c.args.conditions.weights c.args.plan.leg c.args.chain c.loop-number.number c.take_block.new.self c.end.result
    c.requires.leg.steps (c.in_ok-tally.ensures.goes_on c.args.chain.board c.loop-number.invariant.going) c.in_ok-tally.ensures.weight
    (c.may_end.ensures.0 c.if-may_end.true) c.end.ensures

pub loop-number-preserved : goal.loop-number-preserved
loop-number-preserved g c = record {
  going = c.in_ok-tally.ensures.goes_on c.args.chain.board c.loop-number.invariant.going;
  reported = reported_more _ _ _ _ c.loop-number.invariant.reported c.reported.ensures
      (omega (arith, ap (λ (p : Progress). p.steps) c.progress.ensures, c.in_ok-tally.ensures.steps));
  within = λ some. c.in_ok-tally.ensures.weight;
}

pub returns-clause-annealed : goal.returns-clause-annealed
returns-clause-annealed g c =
    let all : c.loop-number.number ≡ block_count c.args.plan.leg = omega (arith, c.block_count-number-end.ensures) in
    let going = subst (λ n. IsGoing c.args.plan.leg c.args.chain.board n c.loop-number.going) all c.loop-number.invariant.going in
    IsAnnealed-all c.args.conditions.weights c.args.plan.leg c.args.chain c.loop-number.going c.end-2.result c.requires.leg.steps going
    (c.loop-number.invariant.within (omega (arith, c.requires.leg.steps))) c.end-2.ensures

pub returns-then-may_end-clause-reported : goal.returns-then-may_end-clause-reported
returns-then-may_end-clause-reported g c =
    let reported : ℕ → Type 0 = λ n. AreReported (g.G.Gate.was_reported c.args.run_context.gate.now 0) n in
    subst reported (sym c.end.ensures.steps) (reported_more _ _ _ _ c.loop-number.invariant.reported c.reported.ensures
    (omega (arith, ap (λ (p : Progress). p.steps) c.progress.ensures, c.in_ok-tally.ensures.steps)))

pub returns-clause-reported : goal.returns-clause-reported
returns-clause-reported g c =
    let reported : ℕ → Type 0 = λ n. AreReported (g.G.Gate.was_reported c.args.run_context.gate.now 0) n in
    subst reported (sym c.end-2.ensures.steps) c.loop-number.invariant.reported
