use Rattle.std.proofs.Common.{[], ◌∙◌, ap, unwrap_or}
use Rattle.cli.proofs.jobs.perform_at.Goals as goal

pub returns-in-Start : goal.returns-in-Start
returns-in-Start g c = record {
  ends = rw (c.in-Start.is, c.without_verdict.ensures.outcome, ← c.as_ref-beginning.ensures.value) c.start_on.ensures;
  verdict = rw c.in-Start.is c.without_verdict.ensures.verdict;
  end = rw c.in-Start.is c.without_verdict.ensures.end;
}

pub returns-in-Play : goal.returns-in-Play
returns-in-Play g c =
    let script = c.script_or_none-script.ensures ∙ ap (λ s. unwrap_or s []) c.parts.ensures.lines in
    record {
      ends = rw (
        c.in-Play.is,
        c.without_verdict-in-Play.ensures.outcome,
        ← c.parts.ensures.league,
        ← script,
        ← c.as_ref-beginning.ensures.value,
      ) c.play_on.ensures;
      verdict = rw c.in-Play.is c.without_verdict-in-Play.ensures.verdict;
      end = rw c.in-Play.is c.without_verdict-in-Play.ensures.end;
    }

pub returns-in-Improve : goal.returns-in-Improve
returns-in-Improve g c = record {
  ends = rw (c.in-Improve.is, c.with_verdict.ensures.outcome, c.with_verdict.ensures.told)
      (rw (c.plan_of-plan.ensures, c.as_ref-beginning.ensures.value) at c.improve_on.ensures);
  verdict = rw c.in-Improve.is c.with_verdict.ensures.verdict;
  end = rw c.in-Improve.is c.with_verdict.ensures.end;
}

pub returns-in-Find : goal.returns-in-Find
returns-in-Find g c =
    let begins = c.as_ref-beginning.ensures.value in
    record {
      ends = rw (c.in-Find.is, c.with_search_end.ensures.outcome, c.with_search_end.ensures.told, ← begins) c.find_on.ensures;
      verdict = rw c.in-Find.is c.with_search_end.ensures.verdict;
      end = rw c.in-Find.is c.with_search_end.ensures.end;
    }

pub returns-in-Report : goal.returns-in-Report
returns-in-Report g c = record {
  ends = rw (
    c.in-Report.is,
    c.with_verdict-in-Report.ensures.outcome,
    c.with_verdict-in-Report.ensures.told,
    ← c.parts-in-Report.ensures.league,
    ← c.parts-in-Report.ensures.lines,
    ← c.as_ref-beginning.ensures.value,
  ) c.report_on.ensures;
  verdict = rw c.in-Report.is c.with_verdict-in-Report.ensures.verdict;
  end = rw c.in-Report.is c.with_verdict-in-Report.ensures.end;
}

pub returns-in-League : goal.returns-in-League
returns-in-League g c = record {
  ends = rw (c.in-League.is, c.with_rounded.ensures.outcome, c.with_rounded.ensures.told) c.league_on.ensures;
  verdict = rw c.in-League.is c.with_rounded.ensures.verdict;
  end = rw c.in-League.is c.with_rounded.ensures.end;
}

pub returns-in-Bound : goal.returns-in-Bound
returns-in-Bound g c = record {
  ends = rw (c.in-Bound.is, c.without_verdict-in-Bound.ensures.outcome) c.bound_on.ensures;
  verdict = rw c.in-Bound.is c.without_verdict-in-Bound.ensures.verdict;
  end = rw c.in-Bound.is c.without_verdict-in-Bound.ensures.end;
}
