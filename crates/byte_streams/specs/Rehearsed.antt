-- How an end follows a list of steps.
use Rattle.std.specs.Prelude.{◌≡◌, ◌≤◌, ℕ, zero, suc, max, List, [], ◌∷◌}
use Rattle.byte_streams.specs.declared.tally.Tally.{Tally}
use Rattle.byte_streams.specs.declared.ends.Step.{Step}
use Rattle.byte_streams.specs.declared.ends.Step.TheVariants.{Moved, Again, Failed}
use Rattle.byte_streams.specs.declared.rehearsed_source.RehearsedSource.{RehearsedSource}
use Rattle.byte_streams.specs.declared.rehearsed_sink.RehearsedSink.{RehearsedSink}
use Rattle.byte_streams.specs.Tally.{noted}

-- the steps that are still to come
abbrev pub source_steps : {S : Type 0} → RehearsedSource S → List Step
source_steps source = source.steps.now

abbrev pub sink_steps : {S : Type 0} → RehearsedSink S → List Step
sink_steps sink = sink.steps.now

-- at most so many bytes were moved
abbrev pub MovesAtMost : ℕ → Step → Type 0
MovesAtMost most (Moved n) = n ≤ most
MovesAtMost most Again = Unit {0}
MovesAtMost most Failed = Unit {0}

-- For an end's own source or sink, with these calls, before and after a call of the end.
module _ {S : Type 0} (tally : S → Tally) (old new : S) where
  -- its own was called once, and the answer is what that answered
  abbrev pub HandsOn : Step → Type 0
  HandsOn answer = tally new ≡ noted (tally old) answer

  -- the answer is the step, and its own stays as it was
  abbrev pub AnswersAlone : Step → Step → Type 0
  AnswersAlone step answer = (answer ≡ step) × (new ≡ old)

  -- what a source answers at the first of the steps: at `Moved(n)` its own is called for at most n bytes, but for one at
  -- least, and after the last step for any
  abbrev pub RehearsesSource : List Step → Step → Type 0
  RehearsesSource [] answer = HandsOn answer
  RehearsesSource (Moved n ∷ later) answer = HandsOn answer × MovesAtMost (max n 1) answer
  RehearsesSource (Again ∷ later) answer = AnswersAlone Again answer
  RehearsesSource (Failed ∷ later) answer = AnswersAlone Failed answer

  -- the same of a sink, whose own isn't called at `Moved(0)`
  abbrev pub RehearsesSink : List Step → Step → Type 0
  RehearsesSink [] answer = HandsOn answer
  RehearsesSink (Moved zero ∷ later) answer = AnswersAlone (Moved 0) answer
  RehearsesSink (Moved (suc n) ∷ later) answer = HandsOn answer × MovesAtMost (suc n) answer
  RehearsesSink (Again ∷ later) answer = AnswersAlone Again answer
  RehearsesSink (Failed ∷ later) answer = AnswersAlone Failed answer
