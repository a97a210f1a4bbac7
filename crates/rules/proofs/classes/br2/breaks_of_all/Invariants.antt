use Rattle.std.proofs.Common.{◌≡◌, ◌-◌, ◌*◌, ◌≤◌}
use Rattle.league.specs.Limits.{max_rounds}
use Rattle.league.specs.Sets.{has}
use Rattle.league.specs.Sums.{sum_below}
use Rattle.league.specs.declared.rule.Side.TheVariants.{Any}
use Rattle.rules.specs.Deviations.{breaks}
use Rattle.rules.proofs.classes.br2.breaks_of_all.Given as goal

abbrev pub invariant-loop-team : goal.invariant-loop-team
invariant-loop-team l = record {
  value : l.count ≡ sum_below l.team (λ t. breaks l.schedule t (λ r. has l.firsts (r - 1)) Any);
  most : l.count ≤ l.team * max_rounds;
}
