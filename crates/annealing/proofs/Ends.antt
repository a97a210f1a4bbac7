-- A leg, block by block.
use Rattle.std.proofs.Common.{◌≡◌, ℕ, ◌+◌, ◌-◌, ◌*◌, ◌/◌, ◌<◌, ◌≤◌, min, Option, Some, None, refl, sym, ◌∙◌, ap, subst, arith}
use Rattle.fixture_board.specs.declared.best.Best.{Best}
use Rattle.fixture_board.specs.History.{best_of}
use Rattle.fixture_board.specs.Laws.{as_number, least_of}
use Rattle.fixture_board.specs.Record.{Book}
use Rattle.fixture_board.specs.Replies.{greatest}
use Rattle.policy.specs.declared.legs.Course.{Course}
use Rattle.policy.specs.declared.legs.Course.TheVariants.{Cools, Heats}
use Rattle.policy.specs.declared.legs.Leg.{Leg}
use Rattle.policy.specs.declared.legs.LegEnd.{LegEnd}
use Rattle.policy.specs.declared.legs.WeightCourse.{WeightCourse}
use Rattle.policy.specs.Legs.{kinds_of}
use Rattle.annealing.specs.declared.blocks.StepTally.{StepTally}
use Rattle.annealing.specs.declared.boards.Boards.{Boards}
use Rattle.annealing.specs.declared.chain.Annealed.{Annealed}
use Rattle.annealing.specs.declared.chain.Chain.{Chain}
use Rattle.annealing.specs.declared.legs.Going.{Going}
use Rattle.annealing.specs.within.Boards.{better, least_in, with_room, AreUnderWay}
use Rattle.annealing.specs.Heats.{hottest_of}
use Rattle.annealing.specs.within.Heats.{block_count}
use Rattle.annealing.specs.Legs.{total_in, IsAnnealed, IsFrom, MayEnd}
use Rattle.annealing.specs.within.Progress.{HasHeated, IsEndOf, IsGoing, IsWithin}
use Rattle.annealing.proofs.Rooms.{least_of_better, AreUnderWay-more, AreUnderWay-with_room, IsFrom-better, IsFrom-same}

-- before the first block

pub IsGoing-none : (leg : Leg) (board : Book) (going : Going) → going.boards ≡ record { board = board; parked = None } → going.steps ≡ 0 →
    going.accepted ≡ 0 → IsGoing leg board 0 going
IsGoing-none leg board going boards_are steps_are accepted_are = record {
  boards = rw (boards_are, accepted_are) (record {
    board = IsFrom-same (kinds_of leg.moves) board;
    parked = tt;
    never_worse = omega arith;
  });
  steps = omega arith;
  accepted = omega arith;
}

-- a block more

block_begins : (leg : Leg) (number : ℕ) → number < block_count leg → 1000 * number < leg.steps
block_begins leg number under = omega arith

pub IsGoing-more : (leg : Leg) (old : Book) (number : ℕ) (going next : Going) (roomy : Boards) (tally : StepTally) → number < block_count leg →
    going.steps ≡ 1000 * number → IsGoing leg old number going → roomy ≡ with_room going.boards →
    next.boards.parked ≡ roomy.parked → IsFrom (kinds_of leg.moves) tally.accepted roomy.board next.boards.board →
    least_in next.boards.board ≤ least_in roomy.board → next.steps ≡ going.steps + tally.steps → next.accepted ≡ going.accepted + tally.accepted →
    tally.steps ≡ min (leg.steps - 1000 * number) 1000 → tally.accepted ≤ tally.steps → IsGoing leg old (number + 1) next
IsGoing-more leg old number going next roomy tally under steps_were was roomy_is parked_is from falls steps_are accepted_are taken few =
    let begins : 1000 * number < leg.steps = block_begins leg number under in
    let roomy_boards = subst (λ b. AreUnderWay (kinds_of leg.moves) going.accepted old b) (sym roomy_is) (AreUnderWay-with_room going.boards was.boards) in
    record {
      boards = rw accepted_are (AreUnderWay-more roomy next.boards roomy_boards parked_is from falls);
      steps = omega arith;
      accepted = omega (arith, was.accepted);
    }

-- the end of a leg

best_is_none : (best : Option Best) → total_in best ≡ None → as_number best ≡ greatest
best_is_none None none = refl
best_is_none (Some best) none = cc

least_none : (board : Book) → total_in (best_of board.league board.history) ≡ None → least_in board ≡ greatest
unfolding least_of
least_none board none = best_is_none (best_of board.league board.history) none

may_end_all : (course : Course) (steps : ℕ) (end : LegEnd) → end.steps ≡ steps → MayEnd course steps end
may_end_all (Cools from to) steps end all = all
may_end_all (Heats from to) steps end all = λ none. all

may_end_heated : (course : Course) (steps : ℕ) (end : LegEnd) (boards : Boards) → HasHeated course boards →
    end.best ≡ total_in (best_of (better boards.parked boards.board).league (better boards.parked boards.board).history) → MayEnd course steps end
may_end_heated (Cools from to) steps end boards heated best_is = absurd heated
may_end_heated (Heats from to) steps end boards heated best_is =
    λ none. absurd (omega (
      arith,
      least_none (better boards.parked boards.board) (sym best_is ∙ none),
      least_of_better boards.parked boards.board,
      heated,
    ))

annealed : (weights : WeightCourse) (leg : Leg) (chain : Chain) (blocks : ℕ) (going : Going) (now : Annealed) → IsGoing leg chain.board blocks going →
    IsWithin weights going.weight → IsEndOf leg going now → 1 ≤ going.steps → MayEnd leg.course leg.steps now.end → IsAnnealed weights leg chain now
annealed weights leg chain blocks going now was within is some may_end =
    let board : Book = better going.boards.parked going.boards.board in
    let from : IsFrom (kinds_of leg.moves) going.accepted chain.board board =
    IsFrom-better going.boards.parked going.boards.board was.boards.parked was.boards.board in
    let falls : least_in board ≤ least_in chain.board =
    omega (arith, least_of_better going.boards.parked going.boards.board, was.boards.never_worse) in
    let least : least_of chain.board.league board.history ≤ least_in chain.board =
    subst (λ l. least_of l board.history ≤ least_in chain.board) from.league falls in
    record {
      board = rw (is.board, is.accepted) from;
      legal = is.legal;
      never_worse = rw is.board least;
      figures = record {
        some = rw is.steps some;
        few = omega (arith, is.steps, was.steps);
        may_end = may_end;
        accepted = omega (arith, is.steps, is.accepted, was.accepted);
        hottest = is.hottest ∙ ap (λ n. hottest_of leg ((n - 1) / 1000)) (sym is.steps);
        hard = is.hard;
        best = is.best;
      };
      weight_least = rw is.weight within.least;
      weight_limit = rw is.weight within.most;
    }

-- all blocks were taken
pub IsAnnealed-all : (weights : WeightCourse) (leg : Leg) (chain : Chain) (going : Going) (now : Annealed) → 1 ≤ leg.steps →
    IsGoing leg chain.board (block_count leg) going → IsWithin weights going.weight → IsEndOf leg going now → IsAnnealed weights leg chain now
IsAnnealed-all weights leg chain going now some was within is =
    annealed weights leg chain (block_count leg) going now was within is (omega (arith, was.steps))
    (may_end_all leg.course leg.steps now.end (omega (arith, is.steps, was.steps)))

-- or the leg has heated its chain enough
pub IsAnnealed-heated : (weights : WeightCourse) (leg : Leg) (chain : Chain) (number : ℕ) (going : Going) (now : Annealed) → 1 ≤ leg.steps →
    IsGoing leg chain.board (number + 1) going → IsWithin weights going.weight → HasHeated leg.course going.boards → IsEndOf leg going now →
    IsAnnealed weights leg chain now
IsAnnealed-heated weights leg chain number going now some was within heated is =
    let best : now.end.best ≡ total_in (best_of (better going.boards.parked going.boards.board).league (better going.boards.parked going.boards.board).history) =
    is.best ∙ ap (λ (b : Book). total_in (best_of b.league b.history)) is.board in
    annealed weights leg chain (number + 1) going now was within is (omega (arith, was.steps))
    (may_end_heated leg.course leg.steps now.end going.boards heated best)
