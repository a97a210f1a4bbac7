-- The steps of a block: what each draws, and what becomes of it.
use Rattle.std.specs.Prelude.{◌≡◌, ℕ, zero, suc, ◌+◌, ◌==◌, Bool, if◌then◌else◌, List}
use Rattle.std.specs.Int.{from_bool}
use Rattle.rand_core.specs.Stream.{Stream, next_u32}
use Rattle.league.specs.League.{LeagueData}
use Rattle.moves.specs.declared.moves.Move.{Move}
use Rattle.costs.specs.declared.cost.Cost.{Cost}
use Rattle.fixture_board.specs.declared.change.Entry.{Entry}
use Rattle.fixture_board.specs.declared.trial.Trial.{Trial}
use Rattle.fixture_board.specs.History.{cost_at}
use Rattle.fixture_board.specs.Record.{Book}
use Rattle.fixture_board.specs.Trials.{passes, trial_history}
use Rattle.draws.specs.Draws.{drawn_among}
use Rattle.annealing.specs.declared.blocks.Block.{Block}
use Rattle.annealing.specs.declared.blocks.StepTally.{StepTally}
use Rattle.annealing.specs.declared.thresholds.TheConstants.{QUANTILES}
use Rattle.annealing.specs.within.Heats.{threshold_of}

-- how far a walk is: its history, what the generator will answer, at how many steps the schedule counted as feasible, and how many moves were made
pub record Walked : Type 0 where
  pub history : List Entry
  pub stream : Stream
  pub feasible : ℕ
  pub accepted : ℕ

-- before the first step
abbrev pub start_at : List Entry → Stream → Walked
start_at history stream = record { history = history; stream = stream; feasible = 0; accepted = 0 }

-- what a step tries, by its first word and by how a move is drawn of the stream that the word leaves
abbrev pub trial_from : (Stream → Move × Stream) → Block → ℕ × Stream → Trial × Stream
trial_from draw block word =
    let drawn = draw word.1 in
    (record { mv = drawn.0; weights = block.weights; rise = threshold_of QUANTILES block.temperature word.0 }, drawn.1)

-- what a step tries with this stream, and the stream that is left
unfoldable pub trial_drawn : Block → Stream → Trial × Stream
trial_drawn block stream =
    trial_from (drawn_among block.draws.teams block.draws.kinds.now block.draws.rounds.now) block (next_u32 stream)

-- whether a schedule of this cost counts as feasible: if it is, or if rules weigh apart and it breaks nothing else
abbrev pub counts_as_feasible : Bool → Cost → Bool
counts_as_feasible apart cost = cost.hard == (if apart then cost.of_rules else 0)

-- the walk with what was tried
abbrev pub with_trial : LeagueData → ℕ → Block → Walked → Trial × Stream → Walked
with_trial league room block w drawn = record {
  history = trial_history league room w.history 0 drawn.0;
  stream = drawn.1;
  feasible = w.feasible + from_bool (counts_as_feasible block.apart (cost_at league w.history));
  accepted = w.accepted + from_bool (passes league room w.history drawn.0);
}

-- so many steps
unfoldable pub walked : LeagueData → ℕ → Block → ℕ → Walked → Walked
walked league room block zero w = w
walked league room block (suc n) w =
    let before = walked league room block n w in with_trial league room block before (trial_drawn block before.stream)

-- the tally, the generator and the board are those of the walk
pub record IsTallied (tally : StepTally) (stream : Stream) (board : Book) (w : Walked) : Type 0 where
  pub history : board.history ≡ w.history
  pub stream_is : stream ≡ w.stream
  pub feasible : tally.feasible ≡ w.feasible
  pub accepted : tally.accepted ≡ w.accepted
