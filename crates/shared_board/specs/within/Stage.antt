-- What private functions alone need beside specs/Stage.antt.
use Rattle.std.specs.Prelude.{List, []}
use Rattle.fixture_board.specs.declared.change.Entry.{Entry}
use Rattle.shared_board.specs.Stage.{Stage, away, holds, counts, owes}

-- the history
abbrev pub kept : Stage → List Entry
kept away = []
kept (holds h) = h
kept (counts h) = h
kept (owes before h) = h

-- the history before the one whose best total is owed
abbrev pub owed : Stage → List Entry
owed away = []
owed (holds h) = []
owed (counts h) = []
owed (owes before h) = before

-- it holds the turn and owes nothing
abbrev pub IsSettled : Stage → Type 0
IsSettled away = ⊥
IsSettled (holds h) = Unit {0}
IsSettled (counts h) = Unit {0}
IsSettled (owes before h) = ⊥
