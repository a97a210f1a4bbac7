use Rattle.std.proofs.Common.{[], ◌∷◌, arith}
use Rattle.std.proofs.lemmas.List.Elements.{All-head}
use Rattle.std.proofs.lemmas.Result.{err_from_is_err_and}
use Rattle.improvement.specs.within.Lines.{IsRunning}
use Rattle.improvement.specs.within.UnderWay.{HasTold, IsUnderWay, run_of}
use Rattle.improvement.proofs.UnderWay.{ends_early, few_reported, sent_of, under_way_more}
use Rattle.improvement.proofs.improving.report_leg.Goals as goal

pub returns-in_err-annealed-clause-under_way : goal.returns-in_err-annealed-clause-under_way
returns-in_err-annealed-clause-under_way g c = λ first w.
    let s = c.args.setting in
    let p = err_from_is_err_and c.from_residual.result c.from_residual.ensures.1 in
    rw (p.1, p.2) (sent_of g.W.Sink.held g.W.Sink.tally s.start.now s.plan w.legs c.args.reported.now w.told)

pub report-requires-clause-few : goal.report-requires-clause-few
report-requires-clause-few g c =
    let s = c.args.setting in
    omega (
      arith,
      few_reported g.W.Sink.held g.W.Sink.tally s.start.now s.plan _ c.args.line.now c.args.reported.now c.requires.under_way,
      c.requires.setting.effort,
    )

pub report-requires-clause-told : goal.report-requires-clause-told
report-requires-clause-told g c = λ κs within.
    let w = c.requires.under_way in (
      w.legs,
      w.told,
      c.in_ok-annealed.ensures c.args.setting.start.now w.legs c.args.leg.assignment
          (All-head (IsRunning c.args.setting.start.now w.legs) c.args.leg [] w.running),
    )

pub returns-in_err-report-clause-under_way : goal.returns-in_err-report-clause-under_way
returns-in_err-report-clause-under_way g c = λ first w.
    let s = c.args.setting in
    let e = c.in_ok-annealed.ensures s.start.now w.legs c.args.leg.assignment (All-head (IsRunning s.start.now w.legs) c.args.leg [] w.running) in
    let p = err_from_is_err_and c.from_residual-in_err-report.result c.from_residual-in_err-report.ensures.1 in
    rw (p.1, p.2) (ends_early g.W.Sink.held g.W.Sink.tally s.start.now s.plan first c.report.new.out
    (λ (done : Unit {0}). HasTold g.W.Sink.held g.W.Sink.tally s.start.now s.plan first c.report.new.out
    (run_of c.args.leg.assignment c.in_ok-annealed.annealed ∷ w.legs) c.report.new.reported)
    (λ (done : Unit {0}). IsUnderWay g.W.Sink.held g.W.Sink.tally s.start.now s.plan first c.report.new.out [] c.args.line.now
    c.report.new.reported)
    c.in_err-report.field-0.0 (c.in_err-report.ensures first w.legs w.told e))

pub go_on-requires-clause-ended : goal.go_on-requires-clause-ended
go_on-requires-clause-ended g c =
    let w = c.requires.under_way in
    let e = c.in_ok-annealed.ensures c.args.setting.start.now w.legs c.args.leg.assignment
    (All-head (IsRunning c.args.setting.start.now w.legs) c.args.leg [] w.running) in
    e.annealed.figures.few

pub returns-in_err-go_on-clause-under_way : goal.returns-in_err-go_on-clause-under_way
returns-in_err-go_on-clause-under_way g c = λ first w.
    let s = c.args.setting in
    let e = c.in_ok-annealed.ensures s.start.now w.legs c.args.leg.assignment (All-head (IsRunning s.start.now w.legs) c.args.leg [] w.running) in
    let p = err_from_is_err_and c.from_residual-in_err-go_on.result c.from_residual-in_err-go_on.ensures.1 in
    rw (p.1, p.2) (sent_of g.W.Sink.held g.W.Sink.tally s.start.now s.plan _ c.report.new.reported
    (c.in_ok-report.ensures first w.legs w.told e))

pub returns-clause-under_way : goal.returns-clause-under_way
returns-clause-under_way g c = λ first w.
    let s = c.args.setting in
    let e = c.in_ok-annealed.ensures s.start.now w.legs c.args.leg.assignment (All-head (IsRunning s.start.now w.legs) c.args.leg [] w.running) in
    under_way_more g.W.Sink.held g.W.Sink.tally s.start.now s.plan c.args.leg c.args.line.now c.go_on.new.self c.args.reported.now
    c.report.new.reported c.in_ok-annealed.annealed w e (c.in_ok-report.ensures first w.legs w.told e)
    (λ legs is line. c.in_ok-go_on.ensures.line s.start.now legs is line) c.in_ok-go_on.ensures.left

pub returns-clause-fewer : goal.returns-clause-fewer
returns-clause-fewer g c =
    let w = c.requires.under_way in
    let e = c.in_ok-annealed.ensures c.args.setting.start.now w.legs c.args.leg.assignment
    (All-head (IsRunning c.args.setting.start.now w.legs) c.args.leg [] w.running) in
    omega (arith, c.in_ok-go_on.ensures.left, e.annealed.figures.some)
