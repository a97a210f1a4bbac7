-- An improvement under way, and how its parts end.
use Rattle.std.specs.Prelude.{◌≡◌, ℕ, ◌+◌, ◌++◌, Bool, true, List, [], length, sum_by, All, Option, Result, Ok, Err}
use Rattle.fixture_board.specs.declared.best.Best.{Best}
use Rattle.fixture_board.specs.History.{best_of}
use Rattle.fixture_board.specs.Record.{Book, book}
use Rattle.byte_streams.specs.declared.buffered.BufferedSink.{BufferedSink}
use Rattle.byte_streams.specs.declared.tally.Tally.{Tally}
use Rattle.byte_streams.specs.Writing.{Adds, Stops, waiting_in}
use Rattle.board_texts.specs.SearchText.{improved_text}
use Rattle.annealing.specs.declared.chain.Annealed.{Annealed}
use Rattle.improvement.specs.declared.legs.Assignment.{Assignment}
use Rattle.improvement.specs.declared.legs.RunningLeg.{RunningLeg}
use Rattle.improvement.specs.declared.line.LegQueue.{LegQueue}
use Rattle.improvement.specs.declared.plan.ImproveFault.{ImproveFault}
use Rattle.improvement.specs.declared.plan.ImproveFault.TheVariants.{Workers, Memory, Write}
use Rattle.improvement.specs.declared.plan.ImprovePlan.{ImprovePlan}
use Rattle.improvement.specs.declared.reported.Reported.{Reported}
use Rattle.improvement.specs.Broken.{broken_if}
use Rattle.improvement.specs.Chains.{chains_of}
use Rattle.improvement.specs.Legs.{AreLegs, LegRun, lead_of, least_reported, steps_in}
use Rattle.improvement.specs.LegText.{improve_text, legs_text}
use Rattle.improvement.specs.Outcome.{AreAll}
use Rattle.improvement.specs.within.Lines.{IsLine, IsRunning, left_in, running_steps}

-- what is known of these legs
pub record HasReported (start : Book) (legs : List LegRun) (reported : Reported) : Type 0 where
  pub lead_is : reported.lead ≡ book start.league start.room (lead_of start.league legs)
  pub least_is : reported.least ≡ least_reported start.league legs
  pub count : reported.legs ≡ length legs
  pub chains_is : reported.chains.bests.items ≡ chains_of start.league legs

-- a leg that was assigned so and ended with this chain
abbrev pub run_of : Assignment → Annealed → LegRun
run_of assignment now = record { chain = assignment.chain; leg = assignment.leg; end = now.end; history = now.chain.board.history }

-- what is written once all legs were reported
abbrev pub end_text : Bool → Reported → List ℕ
end_text history reported =
    broken_if reported.least reported.lead.league reported.chains.bests.items ++
    improved_text history reported.lead.league reported.lead.history

-- For boards that begin so and a plan, and a buffer over a sink with these bytes held and these calls
module _ {W : Type 0} (held : W → Option (List ℕ)) (tally : W → Tally) (start : Book) (plan : ImprovePlan) (old new : BufferedSink W) where
  -- the text was added, and nothing waits
  pub record Sends (text : List ℕ) : Type 0 where
    pub adds : Adds held tally old new text
    pub sent : waiting_in new ≡ []

  -- the texts of some legs were sent
  pub record HasSent : Type 0 where
    pub legs : List LegRun
    pub are : AreLegs start.league start.room legs
    pub sends : Sends (legs_text start.league legs)

  -- these legs were reported, and their texts were sent
  pub record HasTold (legs : List LegRun) (reported : Reported) : Type 0 where
    pub are : AreLegs start.league start.room legs
    pub sends : Sends (legs_text start.league legs)
    pub reported_is : HasReported start legs reported

  -- some legs were reported, these are out of line, and the others stand in it
  pub record IsUnderWay (out_of_line : List RunningLeg) (line : LegQueue) (reported : Reported) : Type 0 where
    pub legs : List LegRun
    pub told : HasTold legs reported
    pub steps : sum_by running_steps out_of_line + left_in line + steps_in legs ≡ plan.effort
    pub running : All (IsRunning start legs) out_of_line
    pub line_is : IsLine start legs line

  -- the whole text was written and sent, and this is the best version of the history that leads
  pub record HasWritten (best : Option Best) : Type 0 where
    pub legs : List LegRun
    pub are : AreLegs start.league start.room legs
    pub all : AreAll plan legs
    pub best_is : best ≡ best_of start.league (lead_of start.league legs)
    pub sends : Sends (improve_text start.league plan.history true legs)

  -- a write failed in the text of some legs
  pub record HasStopped : Type 0 where
    pub legs : List LegRun
    pub are : AreLegs start.league start.room legs
    pub ended : Bool
    pub all : ended ≡ true → AreAll plan legs
    pub stops : Stops held tally old new (improve_text start.league plan.history ended legs)

  -- a part that ends well by doing something. Otherwise a write failed, or memory ran out once the texts of the legs that were reported had
  -- been sent
  abbrev pub EndsBy : {T : Type 0} → (T → Type 0) → Result T ImproveFault → Type 0
  EndsBy done (Ok value) = done value
  EndsBy done (Err Workers) = ⊥
  EndsBy done (Err Memory) = HasSent
  EndsBy done (Err Write) = HasStopped
