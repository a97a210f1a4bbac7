use Rattle.std.proofs.Common.{append-nil, sym, arith}
use Rattle.league.specs.Sets.{has}
use Rattle.league.proofs.ForCallers.{sum_below_none}
use Rattle.report_page.specs.Lists.{round_in}
use Rattle.report_page.proofs.Counting.{counted_more, one_at_most}
use Rattle.report_page.proofs.Pushes.{piece_added}
use Rattle.report_page.proofs.lists.push_stretches.Goals as goal

pub loop-round-init : goal.loop-round-init
loop-round-init c = record { text = sym (append-nil _); counted = sym (sum_below_none _); few = omega arith }

pub loop-round-preserved : goal.loop-round-preserved
loop-round-preserved c =
    let at = c.stretch_at-stretch in
    record {
      text = piece_added _ _ _ (round_in c.args.rounds (has c.args.chosen)) c.loop-round.round c.loop-round.invariant.text
          (rw (at.ensures.passes, at.ensures.goes_on, at.ensures.continues, c.loop-round.invariant.counted) at c.in_ok-push_stretch_end.ensures);
      counted = counted_more c.loop-round.round (has c.args.chosen) c.loop-round.before c.from-before.result at.result.passes
          c.loop-round.invariant.counted at.ensures.passes c.from-before.ensures;
      few = omega (arith, c.loop-round.invariant.few, one_at_most at.result.passes c.from-before.result c.from-before.ensures);
    }
