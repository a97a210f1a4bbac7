use Rattle.std.proofs.Common.{◌+◌, arith}
use Rattle.std.specs.Prelude.{slice_get}
use Rattle.league.proofs.ForCallers.{sum_below_none}
use Rattle.byte_streams.proofs.Pieces.{Adds-nothing, Adds-piece, Stops-in_pieces, Stops-writes}
use Rattle.costs.specs.Costs.{hard_penalty, penalty_of}
use Rattle.board_texts.specs.LeastHard.{breaches_of, rule_part}
use Rattle.board_texts.proofs.Breaches.{breaches_more, part_is}
use Rattle.board_texts.proofs.least_hard.write_rules.Goals as goal

pub loop-i-init : goal.loop-i-init
loop-i-init g c =
    let none = sum_below_none (λ k. penalty_of hard_penalty c.args.schedule.now (slice_get c.args.league.now.rules k)) in
    record { added = Adds-nothing c.args.out.now; before = omega (arith, none); most = omega arith }

pub loop-i-preserved : goal.loop-i-preserved
loop-i-preserved g c =
    let l = c.args.league.now in
    let s = c.args.schedule.now in
    let part = part_is l.rules s c.loop-i.i c.rule-rule.result.now c.rule-rule.ensures.value c.args.breaches c.loop-i.before
    c.hard_breaches-count.result c.loop-i.invariant.before c.hard_breaches-count.ensures.value in
    let more = breaches_more l.rules s c.loop-i.i c.rule-rule.result.now c.rule-rule.ensures.value in
    record {
      added = Adds-piece (λ i. rule_part s (c.args.breaches + breaches_of l.rules s i) i (slice_get l.rules i)) c.loop-i.i
          c.loop-i.invariant.added (rw part at c.in_ok-write_rule.ensures.ok);
      before = omega (arith, more, c.loop-i.invariant.before, c.hard_breaches-count.ensures.value);
      most = omega (arith, c.loop-i.invariant.most, c.hard_breaches-count.ensures.below);
    }

pub returns-in_err-write_rule : goal.returns-in_err-write_rule
returns-in_err-write_rule g c =
    let l = c.args.league.now in
    let s = c.args.schedule.now in
    let part = part_is l.rules s c.loop-i.i c.rule-rule.result.now c.rule-rule.ensures.value c.args.breaches c.loop-i.before
    c.hard_breaches-count.result c.loop-i.invariant.before c.hard_breaches-count.ensures.value in
    Stops-writes c.from_residual.ensures.0
    (Stops-in_pieces (λ i. rule_part s (c.args.breaches + breaches_of l.rules s i) i (slice_get l.rules i)) c.loop-i.i _
    (rw c.rule_count-i-end.ensures.value at c.loop-i-test.true) c.loop-i.invariant.added (rw part at c.in_err-write_rule.ensures.err))
