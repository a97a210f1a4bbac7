use Rattle.std.proofs.Common.{refl}
use Rattle.improvement.proofs.UnderWay.{reported_none}
use Rattle.improvement.proofs.reported.Reported.none.Goals as goal

pub returns : goal.returns
returns c = reported_none c.args.start.now _ c.in_ok-anew.ensures refl refl c.new.ensures
