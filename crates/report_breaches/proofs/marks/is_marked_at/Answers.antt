use Rattle.std.proofs.Common.{sym}
use Rattle.report_breaches.proofs.Naming.{none_of_fa2}
use Rattle.report_breaches.proofs.marks.is_marked_at.Goals as goal

pub returns-in-Fa2 : goal.returns-in-Fa2
returns-in-Fa2 c =
    rw c.in-Fa2.is (sym (none_of_fa2 c.args.schedule.now c.in-Fa2.teams c.in-Fa2.slots c.in-Fa2.most c.args.team c.args.round _ _))
