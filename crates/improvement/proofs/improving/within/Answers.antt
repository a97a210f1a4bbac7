use Rattle.std.proofs.Common.{arith}
use Rattle.improvement.proofs.Ends.{improves}
use Rattle.improvement.proofs.improving.within.Goals as goal

pub returns-clause-ended : goal.returns-clause-ended
returns-clause-ended g c =
    let setting = c.requires.setting in
    improves g.W.Sink.held g.W.Sink.tally c.args.setting.start.now c.args.setting.plan _ setting.league setting.workers
    setting.room _ _ c.run_and_write-ended.result _ c.new.ensures c.run_and_write-ended.ensures (grind arith)
