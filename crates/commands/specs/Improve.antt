-- How `ttp improve` ends.
use Rattle.std.specs.Prelude.{◌≡◌, ◌⊎◌, ℕ, List, is_some, Option, Some, None, Result, Ok, Err}
use Rattle.byte_streams.specs.declared.tally.Tally.{Tally}
use Rattle.league.specs.League.{LeagueData}
use Rattle.fixture_board.specs.declared.best.Best.{Best}
use Rattle.improvement.specs.declared.plan.ImproveFault.{ImproveFault}
use Rattle.improvement.specs.declared.plan.ImproveFault.TheVariants as improve
use Rattle.improvement.specs.declared.plan.ImprovePlan.{ImprovePlan}
use Rattle.improvement.specs.Outcome.{Improves}
use Rattle.given_start.specs.declared.begun.Beginning.{Beginning}
use Rattle.commands.specs.declared.fault.ProgramFault.{ProgramFault}
use Rattle.commands.specs.declared.fault.ProgramFault.TheVariants.{Workers, Write, Memory}
use Rattle.commands.specs.declared.verdict.Verdict.{Verdict}
use Rattle.commands.specs.Begun.{Begins, Refuses}
use Rattle.commands.specs.Outcome.{EndsFrom}
use Rattle.commands.specs.Verdict.{verdict_of}

-- For a sink with these bytes held and these calls, a plan, and the verdict if one is told.
module _ {W : Type 0} (held : W → Option (List ℕ)) (pushes : W → Tally) (plan : ImprovePlan) (told : Option Verdict) where
  -- the improvement of the league that the bytes stand for, where it is to begin, ended so
  abbrev pub ImprovesIt : List ℕ → Option Beginning → W → W → Result (Option Best) ImproveFault → Type 0
  ImprovesIt bytes beginning before after result = (league : LeagueData) × Begins bytes beginning league
      × Improves held pushes league plan before after result

  -- it ended well, and the verdict is whether it found a feasible schedule
  abbrev pub HasImproved : List ℕ → Option Beginning → W → W → Type 0
  HasImproved bytes beginning before after = (best : Option Best) × ImprovesIt bytes beginning before after (Ok best)
      × (told ≡ Some (verdict_of (is_some best)))

  -- If there is no such league nothing was written. Memory may be wanting while the league is read, or later
  abbrev pub EndsImproveOn : List ℕ → Option Beginning → W → W → Result Unit ProgramFault → Type 0
  EndsImproveOn bytes beginning before after (Ok done) = HasImproved bytes beginning before after
  EndsImproveOn bytes beginning before after (Err Workers) = ImprovesIt bytes beginning before after (Err improve.Workers)
  EndsImproveOn bytes beginning before after (Err Write) = ImprovesIt bytes beginning before after (Err improve.Write)
  EndsImproveOn bytes beginning before after (Err Memory) =
      (after ≡ before) ⊎ ImprovesIt bytes beginning before after (Err improve.Memory)
  EndsImproveOn bytes beginning before after (Err fault) = Refuses bytes beginning fault × (after ≡ before)

-- the same between a source and a sink, of a league that begins at its own start
abbrev pub EndsImprove : {R W : Type 0} → (R → Option (List ℕ)) → (R → Tally) → (W → Option (List ℕ)) → (W → Tally) → ImprovePlan
    → Option Verdict → R → R → W → W → Result Unit ProgramFault → Type 0
EndsImprove left pulls held pushes plan told = EndsFrom left pulls (λ bytes. EndsImproveOn held pushes plan told bytes None)
