-- The boards of a leg: the one that it goes on with, and one that was set aside when its room was used up.
use Rattle.std.specs.Prelude.{ℕ, ◌+◌, ◌≤◌, Bool, nat_le, min, if◌then◌else◌, List, [], length, Option, Some, None, IfSome}
use Rattle.moves.specs.declared.moves.MoveKind.{MoveKind}
use Rattle.fixture_board.specs.Laws.{least_of}
use Rattle.fixture_board.specs.Record.{Book, book}
use Rattle.fixture_board.specs.Rewound.{rewound}
use Rattle.annealing.specs.declared.boards.Boards.{Boards}
use Rattle.annealing.specs.Legs.{IsFrom}

abbrev pub least_in : Book → ℕ
least_in board = least_of board.league board.history

-- the one with the least total, and of equals the one that was set aside
abbrev pub better : Option Book → Book → Book
better None board = board
better (Some parked) board = if nat_le (least_in parked) (least_in board) then parked else board

-- the least total of the two
abbrev pub least_of_both : Option Book → Book → ℕ
least_of_both None board = least_in board
least_of_both (Some parked) board = min (least_in parked) (least_in board)

-- whether the history may have so many entries more
abbrev pub has_room_for : ℕ → Book → Bool
has_room_for entries board = nat_le (length board.history + entries) board.room

abbrev pub at_best : Book → Book
at_best board = book board.league board.room (rewound board.league board.history)

abbrev pub begun_anew : Boards → Boards
begun_anew boards = record {
  board = book boards.board.league boards.board.room [];
  parked = Some (better boards.parked boards.board);
}

-- with room for a block: as it is, at the best version, or begun anew
unfoldable pub with_room : Boards → Boards
with_room boards =
    if has_room_for 1000 boards.board then boards
    else let back : Boards = record boards { board = at_best boards.board } in
    if has_room_for 2000 back.board then back else begun_anew back

-- both go on as the board with which the leg began, and the better one is no worse than it was
pub record AreUnderWay (among : List MoveKind) (most : ℕ) (old : Book) (boards : Boards) : Type 0 where
  pub board : IsFrom among most old boards.board
  pub parked : IfSome boards.parked (IsFrom among most old)
  pub never_worse : least_of_both boards.parked boards.board ≤ least_in old
