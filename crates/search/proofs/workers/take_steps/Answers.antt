use Rattle.std.proofs.Common.{◌+◌, inl, inr, refl, subst, arith, rules}
use Rattle.draws.specs.declared.gates.Progress.{Progress}
use Rattle.search.specs.within.Steps.{IsReported}
use Rattle.search.proofs.Hearing.{counts_next, heard_next, heard_none, hears_full}
use Rattle.search.proofs.Reporting.{but_due, but_end, but_more, but_none}
use Rattle.search.proofs.Scorings.{scoring_still}
use Rattle.search.proofs.workers.take_steps.Goals as goal
use Rattle.search.proofs.workers.take_steps.Goals.{else-loop-s-test, then-loop-s-test+in-Full}

pub loop-s-init : goal.loop-s-init
loop-s-init g c = record {
  whole = search rules;
  few = search rules;
  same_size = search rules;
  evaluator = search rules;
  copy_cost = search rules;
  heard = heard_none _ _ refl refl;
  reported = but_none _ _ refl;
  counted = search rules;
  stays = search rules;
}

pub loop-s-preserved : goal.loop-s-preserved
loop-s-preserved g c =
    let was = c.loop-s.invariant in
    let counts = counts_next c.loop-s.report c.with-report.result c.step-step_result.result c.with-report.ensures in
    record {
      whole = counts.whole was.whole;
      few = omega (arith, counts.few, was.few);
      same_size = search rules;
      evaluator = c.step-step_result.ensures.evaluator;
      copy_cost = search rules;
      heard = heard_next _ c.loop-s.report c.with-report.result c.step-step_result.result c.with-report.ensures was.heard
          (λ on. let one = c.step-step_result.ensures.heard on in (one.reply, one.is_heard, one.result_is));
      reported = but_due _ _ _ _ (but_more _ _ _ _ c.step-step_result.result was.reported c.progress_after-progress.ensures)
          c.report_when_due-progress.ensures;
      counted = omega (arith, counts.accepted, was.counted, c.step-step_result.ensures.counted);
      stays = search rules;
    }

pub returns-after-loop-s-clause-heard : goal.returns-after-loop-s-clause-heard
returns-after-loop-s-clause-heard g c =
    elim c.loop-s-test.branch [
      | else-loop-s-test w ↦ rw w.report-is c.loop-s.invariant.heard
      | then-loop-s-test+in-Full w ↦
          rw w.report-is (heard_next _ c.loop-s.report w.with-report.result w.step-step_result.result w.with-report.ensures c.loop-s.invariant.heard
          (λ on. let one = w.step-step_result.ensures.heard on in (one.reply, one.is_heard, one.result_is)))
    ]

pub returns-after-loop-s-clause-reported : goal.returns-after-loop-s-clause-reported
returns-after-loop-s-clause-reported g c = λ same.
    let reported = g.G.Gate.was_reported c.args.context.gate.now c.args.plan.worker in
    let heard = g.G.Gate.heard c.args.context.gate.now c.args.plan.worker in
    let before = c.loop-s.invariant.reported in
    let s = c.loop-s.s in
    let Rest : Progress → Type 0 = λ p. IsReported reported p in
    elim c.loop-s-test.branch [
      | else-loop-s-test w ↦ record {
        taken = s;
        few = omega arith;
        reported_are = but_end reported s c.loop-s.progress before (subst Rest w.progress-is c.report_rest.ensures);
        stops = inl (omega arith);
      }
      | then-loop-s-test+in-Full w ↦
          let next = w.progress_after-progress.result in
          record {
            taken = s + 1;
            few = omega arith;
            reported_are = but_end reported (s + 1) next
                (but_more reported s c.loop-s.progress next w.step-step_result.result before w.progress_after-progress.ensures)
                (subst Rest w.progress-is c.report_rest.ensures);
            stops = inr (hears_full heard c.loop-s.report.made w.step-step_result.result w.in-Full.is
                (λ on. let one = w.step-step_result.ensures.heard on in (one.reply, one.is_heard, one.result_is)));
          }
    ]

pub progress_after-progress-requires : goal.progress_after-progress-requires
progress_after-progress-requires g c = omega (arith, c.loop-s.invariant.reported.left)

pub step-step_result-requires-clause-scoring : goal.step-step_result-requires-clause-scoring
step-step_result-requires-clause-scoring g c =
    scoring_still c.args.context.scoring.of_boards c.args.context.scoring.league.now (g.D.Door.may_have c.args.door.now)
    (g.D.Door.may_have c.loop-s.door) (g.met.D.Door.stays_boards c.args.door.now c.loop-s.door c.loop-s.invariant.stays)
    c.requires.scoring
