use Rattle.std.proofs.Common.{◌≡◌, ◌+◌, ◌*◌, sym, ◌∙◌, ap, arith}
use Rattle.rules.specs.Deviations.{largest_below}
use Rattle.rules.specs.within.Walked.{apart_in}
use Rattle.rules.proofs.limits.Largest.{largest_below_none, largest_below_more, ord_max_is}
use Rattle.rules.proofs.home_rows.worst_in_lane.Goals as goal

pub loop-chunk-init : goal.loop-chunk-init
loop-chunk-init c = sym (largest_below_none _)

pub loop-chunk-preserved : goal.loop-chunk-preserved
loop-chunk-preserved c =
    omega (
      arith,
      c.loop-chunk.invariant,
      c.max.ensures,
      c.min.ensures,
      c.min-in-loop-chunk.ensures,
      c.max-largest.ensures ∙ ord_max_is c.loop-chunk.largest c.min-in-loop-chunk.result,
      largest_below_more c.loop-chunk.chunk (λ chunk. apart_in c.args.mask.now c.args.first.now c.args.second.now (chunk * 16 + c.args.lane)),
    )

pub returns : goal.returns
returns c =
    let whole : c.loop-chunk.chunk ≡ 5 = omega arith in
    c.loop-chunk.invariant ∙
    ap (λ n. largest_below n (λ chunk. apart_in c.args.mask.now c.args.first.now c.args.second.now (chunk * 16 + c.args.lane))) whole
