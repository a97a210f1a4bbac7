-- The ending of an improvement that came to nothing.
use Rattle.std.proofs.Common.{ℕ, List, Option, Err, inr}
use Rattle.byte_streams.specs.declared.tally.Tally.{Tally}
use Rattle.given_start.specs.declared.begun.Beginning.{Beginning}
use Rattle.improvement.specs.declared.plan.ImproveFault.{ImproveFault}
use Rattle.improvement.specs.declared.plan.ImproveFault.TheVariants.{Workers, Write, Memory}
use Rattle.improvement.specs.declared.plan.ImprovePlan.{ImprovePlan}
use Rattle.commands.specs.declared.verdict.Verdict.{Verdict}
use Rattle.commands.specs.Fault.{of_improve}
use Rattle.commands.specs.Improve.{EndsImproveOn, ImprovesIt}

module _ {W : Type 0} (held : W → Option (List ℕ)) (pushes : W → Tally) (plan : ImprovePlan) (told : Option Verdict) (bytes : List ℕ)
    (beginning : Option Beginning) (before after : W) where
  pub ends_early : (fault : ImproveFault) → ImprovesIt held pushes plan told bytes beginning before after (Err fault) →
      EndsImproveOn held pushes plan told bytes beginning before after (Err (of_improve fault))
  ends_early Workers is = is
  ends_early Write is = is
  ends_early Memory is = inr is
