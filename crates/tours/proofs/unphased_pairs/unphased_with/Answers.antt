use Rattle.std.proofs.Common.{◌≡◌, ℕ, ◌&&◌, ◌||◌, ◌∙◌, arith}
use Rattle.std.specs.Prelude.{if◌then◌else◌}
use Rattle.league.specs.Sets.{has}
use Rattle.league.specs.Sums.{sum_below}
use Rattle.league.proofs.ForCallers.{sum_below_more}
use Rattle.tours.specs.Phased.{is_unphased}
use Rattle.tours.proofs.balances.PhasedBalance.{unphased_at_lower}
use Rattle.tours.proofs.unphased_pairs.unphased_with.Goals as goal

pub loop-team-preserved : goal.loop-team-preserved
loop-team-preserved c =
    let pairs : ℕ → ℕ =
    λ j. sum_below j (λ i. if (has c.args.teams i || has c.args.teams j) && is_unphased c.args.schedule.now i j then 1 else 0) in
    let more : c.unphased_of-total.result ≡ pairs c.loop-team.team =
    c.unphased_of-total.ensures.value ∙ unphased_at_lower c.args.schedule.now (has c.args.teams)
    c.lower_partners-lower.result c.loop-team.team c.lower_partners-lower.ensures.members in
    record {
      value = omega (arith, c.loop-team.invariant.value, sum_below_more c.loop-team.team pairs, more);
      limit = omega (arith, c.loop-team.invariant.limit, c.unphased_of-total.ensures.limit);
    }
