use Rattle.std.proofs.Common.{◌≡◌, ◌+◌, ◌*◌, sym, ◌∙◌, ap, arith}
use Rattle.rules.specs.Deviations.{largest_below}
use Rattle.rules.specs.within.Walked.{apart_in, worst_apart}
use Rattle.rules.proofs.limits.Largest.{largest_below_none, largest_below_more, largest_by_lanes, ord_max_is}
use Rattle.rules.proofs.home_rows.worst_apart.Goals as goal

pub loop-lane-init : goal.loop-lane-init
loop-lane-init c = sym (largest_below_none _)

pub loop-lane-preserved : goal.loop-lane-preserved
loop-lane-preserved c =
    omega (
      arith,
      c.loop-lane.invariant,
      c.worst_in_lane.ensures,
      c.max-largest.ensures ∙ ord_max_is c.loop-lane.largest c.worst_in_lane.result,
      largest_below_more c.loop-lane.lane
          (λ lane. largest_below 5 (λ chunk. apart_in c.args.mask.now c.args.first.now c.args.second.now (chunk * 16 + lane))),
    )

pub returns : goal.returns
unfolding worst_apart
returns c =
    let whole : c.loop-lane.lane ≡ 16 = omega arith in
    c.loop-lane.invariant ∙
    ap (λ n. largest_below n (λ lane. largest_below 5 (λ chunk. apart_in c.args.mask.now c.args.first.now c.args.second.now (chunk * 16 + lane)))) whole ∙
    sym (largest_by_lanes 5 16 (apart_in c.args.mask.now c.args.first.now c.args.second.now))
