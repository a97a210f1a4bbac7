-- The boards of a leg, as their room is used up.
use Rattle.std.proofs.Common.{◌≡◌, ℕ, ◌+◌, ◌≤◌, Bool, true, false, nat_le, min, if◌then◌else◌, List, [], Option, Some, None, refl, sym, ◌∙◌, ap, subst, arith}
use Rattle.std.specs.Prelude.{IfSome}
use Rattle.std.proofs.lemmas.Bool.{leb-true, leb-false}
use Rattle.moves.specs.declared.moves.MoveKind.{MoveKind}
use Rattle.fixture_board.specs.Laws.{as_number, least_of}
use Rattle.fixture_board.specs.Record.{Book, book}
use Rattle.fixture_board.proofs.Rewinding.{same_best_rewound}
use Rattle.annealing.specs.declared.boards.Boards.{Boards}
use Rattle.annealing.specs.within.Boards.{at_best, begun_anew, better, has_room_for, least_in, least_of_both, with_room, AreUnderWay}
use Rattle.annealing.specs.Legs.{IsFrom}
use Rattle.annealing.proofs.Histories.{GoesOn-rewound, GoesOn-same, GoesOn-take, GoesOn-then, GoesOn-wider}

-- from board to board

pub IsFrom-same : (among : List MoveKind) (board : Book) → IsFrom among 0 board board
IsFrom-same among board = record {
  league = refl;
  room = refl;
  goes_on = GoesOn-same among board.history;
}

pub IsFrom-wider : {among : List MoveKind} {most : ℕ} {old new : Book} (more : ℕ) → IsFrom among most old new → most ≤ more →
    IsFrom among more old new
IsFrom-wider more from less = record {
  league = from.league;
  room = from.room;
  goes_on = GoesOn-wider more from.goes_on less;
}

pub IsFrom-then : {among : List MoveKind} {most more : ℕ} {old mid new : Book} → IsFrom among most old mid → IsFrom among more mid new →
    IsFrom among (most + more) old new
IsFrom-then first second = record {
  league = second.league ∙ first.league;
  room = second.room ∙ first.room;
  goes_on = GoesOn-then first.goes_on second.goes_on;
}

IsFrom-at_best : {among : List MoveKind} {most : ℕ} {old board : Book} → IsFrom among most old board → IsFrom among most old (at_best board)
IsFrom-at_best {among} {most} {board = board} from =
    let back : IsFrom among 0 board (at_best board) = record {
      league = refl;
      room = refl;
      goes_on = GoesOn-rewound among board.league board.history;
    } in
    IsFrom-wider most (IsFrom-then from back) (omega arith)

IsFrom-anew : {among : List MoveKind} {most : ℕ} {old board : Book} → IsFrom among most old board →
    IsFrom among most old (book board.league board.room [])
IsFrom-anew {among} {most} {old} {board} from = record {
  league = from.league;
  room = from.room;
  goes_on = GoesOn-wider most (GoesOn-take among 0 old.history) (omega arith);
}

-- the better one

IsFrom-if : {among : List MoveKind} {most : ℕ} {old first second : Book} (test : Bool) → IsFrom among most old first → IsFrom among most old second →
    IsFrom among most old (if test then first else second)
IsFrom-if true first second = first
IsFrom-if false first second = second

pub IsFrom-better : {among : List MoveKind} {most : ℕ} {old : Book} (parked : Option Book) (board : Book) → IfSome parked (IsFrom among most old) →
    IsFrom among most old board → IsFrom among most old (better parked board)
IsFrom-better None board none from = from
IsFrom-better (Some parked) board first from = IsFrom-if (nat_le (least_in parked) (least_in board)) first from

least_if : (first second : Book) (test : Bool) → nat_le (least_in first) (least_in second) ≡ test →
    least_in (if test then first else second) ≡ min (least_in first) (least_in second)
least_if first second true is = omega (arith, leb-true (least_in first) (least_in second) is)
least_if first second false is = omega (arith, leb-false (least_in first) (least_in second) is)

pub least_of_better : (parked : Option Book) (board : Book) → least_in (better parked board) ≡ least_of_both parked board
least_of_better None board = refl
least_of_better (Some parked) board = least_if parked board (nat_le (least_in parked) (least_in board)) refl

-- with room for a block

least_at_best : (board : Book) → least_in (at_best board) ≡ least_in board
unfolding least_of
least_at_best board = ap as_number (same_best_rewound board.league board.room board.history).best

both_at_best : (parked : Option Book) (board : Book) → least_of_both parked (at_best board) ≡ least_of_both parked board
both_at_best None board = least_at_best board
both_at_best (Some parked) board = ap (min (least_in parked)) (least_at_best board)

begun_is : {among : List MoveKind} {most : ℕ} {old : Book} (boards : Boards) → AreUnderWay among most old boards →
    AreUnderWay among most old (begun_anew boards)
begun_is boards under_way = record {
  board = IsFrom-anew under_way.board;
  parked = IsFrom-better boards.parked boards.board under_way.parked under_way.board;
  never_worse = omega (arith, least_of_better boards.parked boards.board, under_way.never_worse);
}

roomy_if : {among : List MoveKind} {most : ℕ} {old : Book} (boards : Boards) (test : Bool) → AreUnderWay among most old boards →
    AreUnderWay among most old (if test then boards else begun_anew boards)
roomy_if boards true under_way = under_way
roomy_if boards false under_way = begun_is boards under_way

rewound_if : {among : List MoveKind} {most : ℕ} {old : Book} (boards : Boards) (test : Bool) → AreUnderWay among most old boards →
    let back : Boards = record boards { board = at_best boards.board } in
    AreUnderWay among most old (if test then boards else (if has_room_for 2000 back.board then back else begun_anew back))
rewound_if boards true under_way = under_way
rewound_if boards false under_way =
    let back : Boards = record boards { board = at_best boards.board } in
    roomy_if back (has_room_for 2000 back.board) (record {
      board = IsFrom-at_best under_way.board;
      parked = under_way.parked;
      never_worse = omega (arith, both_at_best boards.parked boards.board, under_way.never_worse);
    })

pub AreUnderWay-with_room : {among : List MoveKind} {most : ℕ} {old : Book} (boards : Boards) → AreUnderWay among most old boards →
    AreUnderWay among most old (with_room boards)
unfolding with_room
AreUnderWay-with_room boards under_way = rewound_if boards (has_room_for 1000 boards.board) under_way

league_if : (boards : Boards) (test : Bool) →
    (if test then boards else begun_anew boards).board.league ≡ boards.board.league
league_if boards true = refl
league_if boards false = refl

league_rewound_if : (boards : Boards) (test : Bool) →
    let back : Boards = record boards { board = at_best boards.board } in
    (if test then boards else (if has_room_for 2000 back.board then back else begun_anew back)).board.league ≡ boards.board.league
league_rewound_if boards true = refl
league_rewound_if boards false =
    let back : Boards = record boards { board = at_best boards.board } in league_if back (has_room_for 2000 back.board)

-- which of the three it is

pub with_room-as_is : (boards : Boards) → has_room_for 1000 boards.board ≡ true → boards ≡ with_room boards
unfolding with_room
with_room-as_is boards has = rw has refl

pub with_room-back : (boards : Boards) (back : Book) → back ≡ at_best boards.board → has_room_for 1000 boards.board ≡ false →
    has_room_for 2000 back ≡ true → record boards { board = back } ≡ with_room boards
unfolding with_room
with_room-back boards back is none has =
    let room : has_room_for 2000 (at_best boards.board) ≡ true = subst (λ b. has_room_for 2000 b ≡ true) is has in
    rw is (rw (none, room) refl)

pub with_room-anew : (boards next : Boards) (back new full : Book) → back ≡ at_best boards.board → has_room_for 1000 boards.board ≡ false →
    has_room_for 2000 back ≡ false → new ≡ book back.league back.room [] → full ≡ better boards.parked back →
    next ≡ record { board = new; parked = Some full } → next ≡ with_room boards
unfolding with_room
with_room-anew boards next back new full is none fails new_is full_is next_is =
    let room : has_room_for 2000 (at_best boards.board) ≡ false = subst (λ b. has_room_for 2000 b ≡ false) is fails in
    rw next_is (rw (new_is, full_is) (rw is (rw (none, room) refl)))

-- the league stays
pub with_room-league : (boards : Boards) → (with_room boards).board.league ≡ boards.board.league
unfolding with_room
with_room-league boards = league_rewound_if boards (has_room_for 1000 boards.board)

-- ---- the leg's board after its steps
parked_wider : (among : List MoveKind) (most more : ℕ) (old : Book) (parked : Option Book) → IfSome parked (IsFrom among most old) → most ≤ more →
    IfSome parked (IsFrom among more old)
parked_wider among most more old None none less = none
parked_wider among most more old (Some parked) from less = IsFrom-wider more from less

both_fall : (parked : Option Book) (board next : Book) → least_in next ≤ least_in board → least_of_both parked next ≤ least_of_both parked board
both_fall None board next less = less
both_fall (Some parked) board next less = omega arith

pub AreUnderWay-more : {among : List MoveKind} {most more : ℕ} {old : Book} (boards next : Boards) → AreUnderWay among most old boards →
    next.parked ≡ boards.parked → IsFrom among more boards.board next.board → least_in next.board ≤ least_in boards.board →
    AreUnderWay among (most + more) old next
AreUnderWay-more {among} {most} {more} {old} boards next under_way parked_is from falls = record {
  board = IsFrom-then under_way.board from;
  parked = subst (λ p. IfSome p (IsFrom among (most + more) old)) (sym parked_is)
      (parked_wider among most (most + more) old boards.parked under_way.parked (omega arith));
  never_worse = rw parked_is (omega (arith, both_fall boards.parked boards.board next.board falls, under_way.never_worse));
}
