use Rattle.std.proofs.Common.{ℕ, if◌then◌else◌, arith, refl, ◌∙◌, ap}
use Rattle.league.specs.Sets.{has}
use Rattle.league.proofs.ForCallers.{sum_without_none, sum_without_more, sum_without_all, lowest_below}
use Rattle.fixtures.specs.Games.{cell}
use Rattle.rules.proofs.walks.Sets.{byte_is, byte_le, count_of_both}
use Rattle.rules.proofs.counted_games.games_with.Goals as goal

pub loop-round-init : goal.loop-round-init
loop-round-init c = sum_without_none _ _ _ _ _ (omega arith) c.into_iter-round-iterator.ensures.into_iter_gives

pub loop-round-preserved : goal.loop-round-preserved
loop-round-preserved c =
    sum_without_more _ _ _ _ _ _ _ _ _ c.loop-round.invariant c.in-Some.ensures.steps
    (c.from-count.ensures ∙ byte_is c.meets_one_of.result ∙ ap {B = ℕ} (λ b. if b then 1 else 0) c.meets_one_of.ensures)
    (omega (arith, c.from-count.ensures, byte_le c.meets_one_of.result))

pub meets_one_of-requires-clause-round : goal.meets_one_of-requires-clause-round
meets_one_of-requires-clause-round c = lowest_below _ _ _ _ c.loop-round.invariant.below c.in-Some.ensures.steps

pub returns-clause-value : goal.returns-clause-value
returns-clause-value c =
    sum_without_all _ _ _ _ _ _ _ c.loop-round.invariant c.in-None.ensures.steps.0 (λ k below. refl) ∙
    count_of_both _ (has c.args.rounds) (λ r. has c.args.opponents (cell c.args.schedule.now c.args.team r).opponent)
