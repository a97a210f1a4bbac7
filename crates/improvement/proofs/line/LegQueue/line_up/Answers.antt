use Rattle.std.proofs.Common.{◌++◌, ◌∙◌, ap, append_assoc, List}
use Rattle.improvement.specs.declared.legs.Assignment.{Assignment}
use Rattle.improvement.specs.within.Lines.{assignments_of}
use Rattle.improvement.proofs.line.LegQueue.line_up.Goals as goal

pub loop-bout-preserved : goal.loop-bout-preserved
loop-bout-preserved c =
    let was = c.loop-bout.invariant in
    let now = c.in_ok-line_up_bout.ensures in
    record {
      line = λ start legs line. now.line start legs (was.line start legs line);
      assignments = (
        was.assignments.0 ++ now.assignments.0,
        now.assignments.1 ∙ ap (λ (assignments : List Assignment). assignments ++ now.assignments.0) was.assignments.1 ∙
            append_assoc (assignments_of c.args.self.now) was.assignments.0 now.assignments.0,
      );
      left = now.left ∙ was.left;
    }
