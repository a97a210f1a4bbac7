use Rattle.std.proofs.Common.{◌≡◌, ◌+◌, ◌-◌, arith}
use Rattle.league.specs.Sets.{has}
use Rattle.league.specs.declared.rule.Side.TheVariants.{Any}
use Rattle.league.proofs.ForCallers.{sum_below_more}
use Rattle.rules.specs.Deviations.{breaks}
use Rattle.rules.proofs.counted.CountedRounds.{changes_of_firsts}
use Rattle.rules.proofs.classes.br2.breaks_of_all.Goals as goal

changes_and_breaks : (c : goal.After-len) →
    c.len.result + breaks c.args.schedule.now c.loop-team.team (λ r. has c.args.firsts (r - 1)) Any ≡ c.len-rounds.result
changes_and_breaks c =
    omega (
      arith,
      c.len.ensures.among _ (c.intersection.ensures.below _ c.requires.firsts),
      c.len-rounds.ensures.among _ c.requires.firsts,
      changes_of_firsts c.args.schedule.now c.loop-team.team c.args.firsts _ _ c.requires.season c.home_rounds.ensures.members
          c.changes_of-changes.ensures _ c.intersection.ensures.members,
    )

pub overflow_sub-count : goal.overflow_sub-count
overflow_sub-count c = omega (arith, changes_and_breaks c)

pub loop-team-preserved : goal.loop-team-preserved
loop-team-preserved c = record {
  value = omega (
    arith,
    c.loop-team.invariant.value,
    changes_and_breaks c,
    sum_below_more c.loop-team.team (λ t. breaks c.args.schedule.now t (λ r. has c.args.firsts (r - 1)) Any),
  );
  most = omega (arith, c.loop-team.invariant.most, c.len-rounds.ensures.most);
}
