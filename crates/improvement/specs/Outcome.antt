-- How an improvement ends.
use Rattle.std.specs.Prelude.{◌≡◌, ◌≤◌, ◌⊎◌, ℕ, Bool, true, List, length, Option, None, Result, Ok, Err}
use Rattle.std.specs.Io.KnownBytes.{Appends}
use Rattle.league.specs.League.{LeagueData}
use Rattle.byte_streams.specs.Limits.{write_limit}
use Rattle.byte_streams.specs.Sending.{AppendsPrefix}
use Rattle.byte_streams.specs.Tally.{FailsWriting}
use Rattle.byte_streams.specs.declared.tally.Tally.{Tally}
use Rattle.fixture_board.specs.declared.best.Best.{Best}
use Rattle.choices.specs.Limits.{max_room}
use Rattle.fixture_board.specs.History.{best_of}
use Rattle.board_texts.specs.SearchText.{PlaysBack}
use Rattle.improvement.specs.declared.plan.ImprovePlan.{ImprovePlan}
use Rattle.improvement.specs.declared.plan.ImproveFault.{ImproveFault}
use Rattle.improvement.specs.declared.plan.ImproveFault.TheVariants.{Workers, Memory, Write}
use Rattle.improvement.specs.Legs.{AreLegs, IsWorkers, LegRun, lead_of, room_of, steps_in}
use Rattle.improvement.specs.LegText.{improve_text, legs_text}

-- these legs are all of an improvement: they took all its steps, or fewer if several improvements share them
pub record AreAll (plan : ImprovePlan) (legs : List LegRun) : Type 0 where
  pub few : steps_in legs ≤ plan.effort
  pub all : plan.first ≡ None → steps_in legs ≡ plan.effort

-- The text of an improvement, of all its legs, and the best version of the history that leads to its end. That history, which the plan may
-- want in the text, fits the greatest room of a board and, given as a script in any room that it fits, leads to the same games and the same best
pub record IsImproveText (league : LeagueData) (plan : ImprovePlan) (best : Option Best) (text : List ℕ) : Type 0 where
  pub legs : List LegRun
  pub are : AreLegs league (room_of plan.effort) legs
  pub all : AreAll plan legs
  pub text_is : text ≡ improve_text league plan.history true legs
  pub best_is : best ≡ best_of league (lead_of league legs)
  pub fits : length (lead_of league legs) ≤ max_room
  pub again : (room : ℕ) → length (lead_of league legs) ≤ room → PlaysBack league room (lead_of league legs)

-- what there is to write after some legs, whether or not these are all
pub record IsTextSoFar (league : LeagueData) (plan : ImprovePlan) (text : List ℕ) : Type 0 where
  pub legs : List LegRun
  pub are : AreLegs league (room_of plan.effort) legs
  pub ended : Bool
  pub all : ended ≡ true → AreAll plan legs
  pub text_is : text ≡ improve_text league plan.history ended legs

-- the texts of some legs
pub record AreLegTexts (league : LeagueData) (plan : ImprovePlan) (text : List ℕ) : Type 0 where
  pub legs : List LegRun
  pub are : AreLegs league (room_of plan.effort) legs
  pub text_is : text ≡ legs_text league legs

-- For a sink with these bytes held and these calls
module _ {W : Type 0} (held : W → Option (List ℕ)) (pushes : W → Tally) (league : LeagueData) (plan : ImprovePlan) (before after : W) where
  -- The text went out whole on success, and a prefix of it before a failed write. Where memory ran out exactly the texts of the legs
  -- that had been reported went out, or nothing before the first one, and nothing if the number of workers is wrong
  abbrev pub Improves : Result (Option Best) ImproveFault → Type 0
  Improves (Ok best) = IsWorkers plan × (text : List ℕ) × IsImproveText league plan best text × Appends (held before) (held after) text
  Improves (Err Workers) = (¬ IsWorkers plan) × (after ≡ before)
  Improves (Err Memory) = IsWorkers plan
      × ((after ≡ before) ⊎ ((text : List ℕ) × AreLegTexts league plan text × Appends (held before) (held after) text))
  Improves (Err Write) = IsWorkers plan × (text : List ℕ) × IsTextSoFar league plan text
      × AppendsPrefix (held before) (held after) text × FailsWriting write_limit (pushes before) (pushes after)
