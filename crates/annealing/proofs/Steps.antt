-- A step of a block.
use Rattle.std.proofs.Common.{◌≡◌, ℕ, ◌+◌, ◌≤◌, Bool, true, false, if◌then◌else◌, List, Some, None, refl, sym, ◌∙◌, ap, subst, add-one, add-zero, arith}
use Rattle.std.specs.Prelude.{Contains}
use Rattle.std.specs.Int.{from_bool}
use Rattle.rand_core.specs.Stream.{Stream}
use Rattle.league.specs.League.{LeagueData, IsLeague}
use Rattle.moves.specs.declared.moves.Move.{Move}
use Rattle.moves.specs.declared.moves.MoveKind.{MoveKind}
use Rattle.moves.specs.Moves.{kind_of}
use Rattle.fixture_board.specs.declared.change.Entry.{Entry}
use Rattle.costs.specs.declared.cost.Cost.{Cost}
use Rattle.fixture_board.specs.declared.trial.Trial.{Trial}
use Rattle.fixture_board.specs.History.{cost_at}
use Rattle.fixture_board.specs.Record.{Book, book}
use Rattle.fixture_board.specs.Trials.{passes, trial_cost, trial_entry, trial_history, TellsOfTrial}
use Rattle.fixture_board.proofs.ForCallers.{tells_of_trial, least_of_falls}
use Rattle.annealing.specs.declared.blocks.Block.{Block}
use Rattle.annealing.specs.declared.blocks.StepTally.{StepTally}
use Rattle.annealing.specs.declared.thresholds.TheConstants.{QUANTILES}
use Rattle.annealing.specs.within.Blocks.{Walked, counts_as_feasible, start_at, trial_drawn, trial_from, walked, with_trial, IsTallied}
use Rattle.annealing.specs.within.Boards.{least_in}
use Rattle.annealing.specs.within.Heats.{threshold_of}
use Rattle.annealing.specs.Legs.{GoesOn, IsFrom}
use Rattle.annealing.proofs.Histories.{GoesOn-more}
use Rattle.annealing.proofs.Rooms.{IsFrom-same}

-- what is drawn

pub trial_from-by : (draw : Stream → Move × Stream) (block : Block) (first : ℕ × Stream) (word rise : ℕ) (left : Stream) (mv : Move) (rest : Stream) →
    (word, left) ≡ first → rise ≡ threshold_of QUANTILES block.temperature word → (mv, rest) ≡ draw left →
    (record { mv = mv; weights = block.weights; rise = rise }, rest) ≡ trial_from draw block first
trial_from-by draw block first word rise left mv rest first_is rise_is drawn =
    ap (λ (r : ℕ). let t : Trial = record { mv = mv; weights = block.weights; rise = r } in (t, rest)) rise_is ∙
    ap (λ (d : Move × Stream). let t : Trial = record { mv = d.0; weights = block.weights; rise = threshold_of QUANTILES block.temperature word } in (t, d.1)) drawn ∙
    ap (trial_from draw block) first_is

-- what the walk is with one step more

pub walked-more : (league : LeagueData) (room : ℕ) (block : Block) (n : ℕ) (start : Walked) (drawn : Trial × Stream) →
    drawn ≡ trial_drawn block (walked league room block n start).stream →
    walked league room block (n + 1) start ≡ with_trial league room block (walked league room block n start) drawn
unfolding walked
walked-more league room block n start drawn is =
    rw add-one (ap (with_trial league room block (walked league room block n start)) (sym is))

-- whether the move was made

passed_if : (made : Bool) (cost after : Cost) → Some after ≡ (if made then Some cost else None) → made ≡ true
passed_if true cost after is = refl
passed_if false cost after is = cc

left_if : (made : Bool) (cost : Cost) → None ≡ (if made then Some cost else None) → made ≡ false
left_if true cost is = cc
left_if false cost is = refl

pub passed : (league : LeagueData) (room : ℕ) (h : List Entry) (trial : Trial) (after : Cost) → Some after ≡ trial_cost league room h trial →
    passes league room h trial ≡ true
unfolding trial_cost
passed league room h trial after is = passed_if (passes league room h trial) _ after is

pub failed : (league : LeagueData) (room : ℕ) (h : List Entry) (trial : Trial) → None ≡ trial_cost league room h trial →
    passes league room h trial ≡ false
unfolding trial_cost
failed league room h trial is = left_if (passes league room h trial) _ is

-- a board after a trial that made its move
pub record IsMadeOn (among : List MoveKind) (most : ℕ) (old board next : Book) (after : Cost) : Type 0 where
  pub from : IsFrom among (most + 1) old next
  pub cost : after ≡ cost_at next.league next.history
  pub never_worse : least_in next ≤ least_in board

pub made_on : {among : List MoveKind} {most : ℕ} {old : Book} (board next : Book) (trial : Trial) (after : Cost) →
    IsFrom among most old board → IsLeague board.league → Contains among (kind_of trial.mv) →
    Some after ≡ trial_cost board.league board.room board.history trial →
    next ≡ book board.league board.room (trial_history board.league board.room board.history 0 trial) →
    IsMadeOn among most old board next after
made_on {among} {most} {old} board next trial after from limits kind is next_is =
    let e : Entry = trial_entry 0 trial in
    let h : List Entry = trial_history board.league board.room board.history 0 trial in
    let tells : TellsOfTrial board.league board.history e h (Some after) =
    subst (TellsOfTrial board.league board.history e h) (sym is) (tells_of_trial board.league board.room board.history 0 trial) in
    let falls : least_in (book board.league board.room h) ≤ least_in board =
    rw tells.0 (least_of_falls board.league board.history e limits) in
    let goes : GoesOn among (most + 1) old.history h =
    rw tells.0 (GoesOn-more e from.goes_on (record { own = refl; move = kind })) in
    let made : IsMadeOn among most old board (book board.league board.room h) after = record {
      from = record {
        league = from.league;
        room = from.room;
        goes_on = goes;
      };
      cost = tells.1;
      never_worse = falls;
    } in
    subst (λ b. IsMadeOn among most old board b after) (sym next_is) made

-- a board after one that didn't
pub left_on : (board next : Book) (trial : Trial) → None ≡ trial_cost board.league board.room board.history trial →
    next ≡ book board.league board.room (trial_history board.league board.room board.history 0 trial) → next ≡ board
left_on board next trial is next_is =
    let tells : TellsOfTrial board.league board.history (trial_entry 0 trial) (trial_history board.league board.room board.history 0 trial) None =
    subst (TellsOfTrial board.league board.history (trial_entry 0 trial) (trial_history board.league board.room board.history 0 trial)) (sym is)
    (tells_of_trial board.league board.room board.history 0 trial) in
    next_is ∙ ap (book board.league board.room) tells

-- the tally of one step more

tallied-more : {tally next_tally : StepTally} {stream : Stream} {board next : Book} {w : Walked} (league : LeagueData) (room : ℕ) (block : Block) (cost : Cost)
    (drawn : Trial × Stream) (made : Bool) → IsTallied tally stream board w → board.league ≡ league → board.room ≡ room →
    cost ≡ cost_at board.league board.history →
    next_tally.feasible ≡ tally.feasible + from_bool (counts_as_feasible block.apart cost) → next_tally.accepted ≡ tally.accepted + from_bool made →
    passes board.league board.room board.history drawn.0 ≡ made →
    next ≡ book board.league board.room (trial_history board.league board.room board.history 0 drawn.0) →
    IsTallied next_tally drawn.1 next (with_trial league room block w drawn)
tallied-more {tally} {next_tally} {stream} {board} {next} {w} league room block cost drawn made was league_is room_is cost_is feasible accepted passed next_is =
    let cost_then : cost ≡ cost_at league w.history =
    cost_is ∙ ap (λ l. cost_at l board.history) league_is ∙ ap (cost_at league) was.history in
    let passed_then : made ≡ passes league room w.history drawn.0 =
    sym passed ∙ ap (λ l. passes l board.room board.history drawn.0) league_is ∙ ap (λ r. passes league r board.history drawn.0) room_is ∙
    ap (λ h. passes league room h drawn.0) was.history in
    let history_then : next.history ≡ trial_history league room w.history 0 drawn.0 =
    ap (λ (b : Book). b.history) next_is ∙ ap (λ l. trial_history l board.room board.history 0 drawn.0) league_is ∙
    ap (λ r. trial_history league r board.history 0 drawn.0) room_is ∙ ap (λ h. trial_history league room h 0 drawn.0) was.history in
    record {
      history = history_then;
      stream_is = refl;
      feasible = feasible ∙ ap (λ n. n + from_bool (counts_as_feasible block.apart cost)) was.feasible ∙
          ap (λ (k : Cost). w.feasible + from_bool (counts_as_feasible block.apart k)) cost_then;
      accepted = accepted ∙ ap (λ n. n + from_bool made) was.accepted ∙ ap (λ m. w.accepted + from_bool m) passed_then;
    }

-- what holds after so many steps of a block that was begun with this board and stream

pub record AreSteps (block : Block) (n : ℕ) (old : Book) (start : Stream) (cost : Cost) (tally : StepTally) (stream : Stream) (board : Book) : Type 0 where
  pub from : IsFrom block.draws.kinds.now tally.accepted old board
  pub never_worse : least_in board ≤ least_in old
  pub cost_is : cost ≡ cost_at board.league board.history
  pub steps : tally.steps ≡ block.steps
  pub feasible : tally.feasible ≤ n
  pub accepted : tally.accepted ≤ n
  pub walked : IsTallied tally stream board (walked old.league old.room block n (start_at old.history start))

pub AreSteps-none : (block : Block) (old : Book) (start : Stream) (cost : Cost) (tally : StepTally) → cost ≡ cost_at old.league old.history →
    tally ≡ record { steps = block.steps; feasible = 0; accepted = 0 } → AreSteps block 0 old start cost tally start old
unfolding walked
AreSteps-none block old start cost tally cost_is tally_is =
    let none : StepTally = record { steps = block.steps; feasible = 0; accepted = 0 } in
    let are : AreSteps block 0 old start cost none start old = record {
      from = IsFrom-same block.draws.kinds.now old;
      never_worse = omega arith;
      cost_is = cost_is;
      steps = refl;
      feasible = omega arith;
      accepted = omega arith;
      walked = record { history = refl; stream_is = refl; feasible = refl; accepted = refl };
    } in
    subst (λ t. AreSteps block 0 old start cost t start old) (sym tally_is) are

flag_small : (b : Bool) → from_bool b ≤ 1
flag_small true = omega arith
flag_small false = omega arith

-- where the move was made
pub AreSteps-made : {block : Block} {n : ℕ} {old : Book} {start : Stream} {cost : Cost} {tally : StepTally} {stream : Stream} {board : Book} (next : Book)
    (trial : Trial) (left : Stream) (after next_cost : Cost) (flag : ℕ) (next_tally : StepTally) → AreSteps block n old start cost tally stream board →
    IsLeague old.league → Contains block.draws.kinds.now (kind_of trial.mv) → (trial, left) ≡ trial_drawn block stream →
    flag ≡ from_bool (counts_as_feasible block.apart cost) → Some after ≡ trial_cost board.league board.room board.history trial →
    next ≡ book board.league board.room (trial_history board.league board.room board.history 0 trial) → next_cost ≡ after →
    next_tally ≡ record { steps = tally.steps; feasible = tally.feasible + flag; accepted = tally.accepted + 1 } →
    AreSteps block (n + 1) old start next_cost next_tally left next
AreSteps-made {block} {n} {old} {start} {cost} {tally} {stream} {board} next trial left after next_cost flag next_tally was limits kind drawn flag_is is next_is cost_is tally_is =
    let w : Walked = walked old.league old.room block n (start_at old.history start) in
    let made : IsMadeOn block.draws.kinds.now tally.accepted old board next after =
    made_on board next trial after was.from (subst IsLeague (sym was.from.league) limits) kind is next_is in
    let feasible : next_tally.feasible ≡ tally.feasible + flag = ap (λ (t : StepTally). t.feasible) tally_is in
    let accepted : next_tally.accepted ≡ tally.accepted + 1 = ap (λ (t : StepTally). t.accepted) tally_is in
    let small : flag ≤ 1 = rw flag_is (flag_small (counts_as_feasible block.apart cost)) in
    record {
      from = rw accepted made.from;
      never_worse = omega (arith, made.never_worse, was.never_worse);
      cost_is = cost_is ∙ made.cost;
      steps = ap (λ (t : StepTally). t.steps) tally_is ∙ was.steps;
      feasible = omega (arith, was.feasible);
      accepted = omega (arith, was.accepted);
      walked = rw (walked-more old.league old.room block n (start_at old.history start) (trial, left) (drawn ∙ ap (trial_drawn block) was.walked.stream_is))
          (tallied-more old.league old.room block cost (trial, left) true was.walked was.from.league was.from.room was.cost_is
          (feasible ∙ ap (λ f. tally.feasible + f) flag_is) accepted
          (passed board.league board.room board.history trial after is) next_is);
    }

-- where it wasn't
pub AreSteps-left : {block : Block} {n : ℕ} {old : Book} {start : Stream} {cost : Cost} {tally : StepTally} {stream : Stream} {board : Book} (next : Book)
    (trial : Trial) (left : Stream) (next_cost : Cost) (flag : ℕ) (next_tally : StepTally) → AreSteps block n old start cost tally stream board →
    (trial, left) ≡ trial_drawn block stream →
    flag ≡ from_bool (counts_as_feasible block.apart cost) → None ≡ trial_cost board.league board.room board.history trial →
    next ≡ book board.league board.room (trial_history board.league board.room board.history 0 trial) → next_cost ≡ cost →
    next_tally ≡ record { steps = tally.steps; feasible = tally.feasible + flag; accepted = tally.accepted } →
    AreSteps block (n + 1) old start next_cost next_tally left next
AreSteps-left {block} {n} {old} {start} {cost} {tally} {stream} {board} next trial left next_cost flag next_tally was drawn flag_is is next_is cost_is tally_is =
    let same : next ≡ board = left_on board next trial is next_is in
    let feasible : next_tally.feasible ≡ tally.feasible + flag = ap (λ (t : StepTally). t.feasible) tally_is in
    let accepted : next_tally.accepted ≡ tally.accepted = ap (λ (t : StepTally). t.accepted) tally_is in
    let small : flag ≤ 1 = rw flag_is (flag_small (counts_as_feasible block.apart cost)) in
    record {
      from = rw (accepted, same) was.from;
      never_worse = rw same was.never_worse;
      cost_is = rw same (cost_is ∙ was.cost_is);
      steps = ap (λ (t : StepTally). t.steps) tally_is ∙ was.steps;
      feasible = omega (arith, was.feasible);
      accepted = omega (arith, was.accepted);
      walked = rw (walked-more old.league old.room block n (start_at old.history start) (trial, left) (drawn ∙ ap (trial_drawn block) was.walked.stream_is))
          (tallied-more old.league old.room block cost (trial, left) false was.walked was.from.league was.from.room was.cost_is
          (feasible ∙ ap (λ f. tally.feasible + f) flag_is) (accepted ∙ sym (add-zero tally.accepted))
          (failed board.league board.room board.history trial is) next_is);
    }
