-- All legs of an improvement were reported.
use Rattle.std.proofs.Common.{ℕ, List, Option}
use Rattle.fixture_board.specs.Record.{Book}
use Rattle.byte_streams.specs.declared.buffered.BufferedSink.{BufferedSink}
use Rattle.byte_streams.specs.declared.tally.Tally.{Tally}
use Rattle.improvement.specs.declared.plan.ImprovePlan.{ImprovePlan}
use Rattle.improvement.specs.declared.reported.Reported.{Reported}
use Rattle.improvement.specs.Legs.{LegRun}
use Rattle.improvement.specs.Outcome.{AreAll}
use Rattle.improvement.specs.within.UnderWay.{HasTold}

pub record HasRunAll {W : Type 0} (held : W → Option (List ℕ)) (tally : W → Tally) (start : Book) (plan : ImprovePlan)
    (old new : BufferedSink W) (reported : Reported) : Type 0 where
  pub legs : List LegRun
  pub told : HasTold held tally start plan old new legs reported
  pub all : AreAll plan legs
