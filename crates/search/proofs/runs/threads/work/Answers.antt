use Rattle.std.proofs.Common.{◌≡◌, sym, subst, rules}
use Rattle.league.specs.League.{teams}
use Rattle.search.specs.declared.workers.WorkerPlan.{WorkerPlan}
use Rattle.search.specs.Heard.{IsHeard, ReportsSteps}
use Rattle.search.specs.Reports.{IsReport}
use Rattle.search.proofs.runs.threads.work.Goals as goal

pub returns : goal.returns
returns g c =
    let heard = g.G.Gate.heard c.args.run.context.gate.now in
    let reported = g.G.Gate.was_reported c.args.run.context.gate.now in
    let report = c.take_steps-report.result in
    let Reports : WorkerPlan → Type 0 = λ p. IsReport p.steps report in
    let Hears : WorkerPlan → Type 0 = λ p. IsHeard (heard p.worker) report in
    let Tells : WorkerPlan → Type 0 = λ p. ReportsSteps (reported p.worker) (heard p.worker) p.steps in
    record {
      report_is = subst Reports c.plan_of-plan.ensures c.take_steps-report.ensures.report;
      heard_is = record {
        heard_is = subst Hears c.plan_of-plan.ensures c.take_steps-report.ensures.heard;
        reported_is = λ same. subst Tells c.plan_of-plan.ensures (c.take_steps-report.ensures.reported same);
      };
      table = search rules;
      held = search rules;
      counted = search rules;
    }
