use Rattle.std.proofs.Common.{[]}
use Rattle.std.proofs.lemmas.Result.{err_from_is_err_and}
use Rattle.improvement.specs.within.UnderWay.{HasWritten, IsUnderWay}
use Rattle.improvement.proofs.Ends.{end_stops, end_written, reported_in}
use Rattle.improvement.proofs.UnderWay.{ends_early, none_left, run_all_is, sent_of, under_way_next}
use Rattle.improvement.proofs.improving.run_line.Goals as goal

pub report_leg-requires-clause-under_way : goal.report_leg-requires-clause-under_way
report_leg-requires-clause-under_way g c = λ κs within.
    let s = c.args.setting in
    let next = c.in_ok-leg.ensures in
    rw c.of-lent.ensures (under_way_next g.W.Sink.held g.W.Sink.tally s.start.now s.plan c.loop-lent.line c.next_leg.new.line
    c.loop-lent.reported c.in_ok-leg.field-0 c.in-Some.leg c.loop-lent.invariant c.in-Some.is next.line next.leg next.left)

pub loop-lent-preserved : goal.loop-lent-preserved
loop-lent-preserved g c =
    let s = c.args.setting in
    let next = c.in_ok-leg.ensures in
    c.in_ok-report_leg.ensures.under_way c.args.out.now (under_way_next g.W.Sink.held g.W.Sink.tally s.start.now s.plan
    c.loop-lent.line c.next_leg.new.line c.loop-lent.reported c.in_ok-leg.field-0 c.in-Some.leg c.loop-lent.invariant c.in-Some.is next.line
    next.leg next.left)

pub returns-in_err-leg : goal.returns-in_err-leg
returns-in_err-leg g c =
    let s = c.args.setting in
    let w = c.loop-lent.invariant in
    let p = err_from_is_err_and c.from_residual.result c.from_residual.ensures.1 in
    rw (p.1, p.2) (sent_of g.W.Sink.held g.W.Sink.tally s.start.now s.plan w.legs c.loop-lent.reported w.told)

pub returns-in_err-report_leg : goal.returns-in_err-report_leg
returns-in_err-report_leg g c =
    let s = c.args.setting in
    let next = c.in_ok-leg.ensures in
    let w = under_way_next g.W.Sink.held g.W.Sink.tally s.start.now s.plan c.loop-lent.line c.next_leg.new.line c.loop-lent.reported
    c.in_ok-leg.field-0 c.in-Some.leg c.loop-lent.invariant c.in-Some.is next.line next.leg next.left in
    let p = err_from_is_err_and c.from_residual-in_err-report_leg.result c.from_residual-in_err-report_leg.ensures.1 in
    rw (p.1, p.2) (ends_early g.W.Sink.held g.W.Sink.tally s.start.now s.plan c.args.out.now c.report_leg.new.out
    (λ (done : Unit {0}). IsUnderWay g.W.Sink.held g.W.Sink.tally s.start.now s.plan c.args.out.now c.report_leg.new.out [] c.report_leg.new.line
    c.report_leg.new.reported)
    (HasWritten g.W.Sink.held g.W.Sink.tally s.start.now s.plan c.args.out.now c.report_leg.new.out)
    c.in_err-report_leg.field-0.0 (c.in_err-report_leg.ensures.under_way c.args.out.now w))

pub write_end-requires : goal.write_end-requires
write_end-requires g c =
    let s = c.args.setting in
    reported_in g.W.Sink.held g.W.Sink.tally s.start.now s.plan c.loop-lent.reported
    (run_all_is g.W.Sink.held g.W.Sink.tally s.start.now s.plan c.loop-lent.line c.loop-lent.reported c.loop-lent.invariant
    (none_left c.in_ok-leg.field-0 c.in_default.not-Some (c.in_ok-leg.ensures).none))

pub returns-in_err-write_end : goal.returns-in_err-write_end
returns-in_err-write_end g c =
    let s = c.args.setting in
    let all = run_all_is g.W.Sink.held g.W.Sink.tally s.start.now s.plan c.loop-lent.line c.loop-lent.reported c.loop-lent.invariant
    (none_left c.in_ok-leg.field-0 c.in_default.not-Some (c.in_ok-leg.ensures).none) in
    let p = err_from_is_err_and c.from_residual-in_err-write_end.result c.from_residual-in_err-write_end.ensures.1 in
    rw (p.1, p.2) (end_stops g.W.Sink.held g.W.Sink.tally s.start.now s.plan c.loop-lent.reported all c.in_err-write_end.ensures.writes.err)

pub returns : goal.returns
returns g c =
    let s = c.args.setting in
    let all = run_all_is g.W.Sink.held g.W.Sink.tally s.start.now s.plan c.loop-lent.line c.loop-lent.reported c.loop-lent.invariant
    (none_left c.in_ok-leg.field-0 c.in_default.not-Some (c.in_ok-leg.ensures).none) in
    end_written g.W.Sink.held g.W.Sink.tally s.start.now s.plan c.loop-lent.reported c.best.result all c.in_ok-write_end.ensures.writes.ok
    c.in_ok-write_end.ensures.sent c.best.ensures.value
