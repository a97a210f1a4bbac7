-- What each step tells: of the step, the seat before, the number found and the seat after.
use Rattle.std.specs.Prelude.{nat_lt, if◌then◌else◌, min, max, ◌+◌, ◌++◌, Option, Some, None, ◌≡◌, ◌≢◌, ℕ, ◌<◌, ◌≤◌, List, [], ◌∷◌, length}
use Rattle.atomic_table.specs.Table.{Me, Step, rest}
use Rattle.fixture_board.specs.declared.change.Entry.{Entry}
use Rattle.fixture_board.specs.Laws.{least_of}
use Rattle.fixture_board.specs.Record.{Book}
use Rattle.shared_board.specs.declared.view.View.{View}
use Rattle.shared_board.specs.Setting.{board_at}
use Rattle.shared_board.specs.Stage.{Stage, away, holds, counts, owes}
use Rattle.shared_board.specs.within.Stage.{kept}
use Rattle.shared_board.specs.Held.{times, once_below, HoldsEach, callers_below}
use Rattle.shared_board.specs.Rule.{EachFormer}
use Rattle.shared_board.specs.Plays.{IsMet}

-- what a seat has at the table: what it knows, and the slot that it has taken
abbrev pub Token : Type 0
Token = Me (Option Book) View

abbrev pub Tells : Type 1
Tells = Step (Option Book) → Token → ℕ → Token → Type 0

-- a view met the history under the turn
pub record Meets (v : View) (history : List Entry) : Type 0 where
  pub met : IsMet v.setting v.held v.seen v.glanced v.lowest history
  -- it holds no number twice
  pub single : (x : ℕ) → times x v.held ≤ 1

abbrev pub at_stage : View → Stage → View
at_stage v stage = record v { stage = stage }

-- the view, once this history was seen
abbrev pub saw : View → List Entry → Stage → View
saw v h stage = record v { seen = h; glanced = length h; lowest = least_of v.setting.league h; formers = []; stage = stage }

-- the history on the board that the seat has
abbrev pub in_slot : Option Book → List Entry
in_slot None = []
in_slot (Some b) = b.history

abbrev pub on_board : List (ℕ × Option Book) → List Entry
on_board [] = []
on_board (x ∷ xs) = in_slot x.1

-- the turn was taken, and with it the board
abbrev pub Took : Token → Token → Type 0
Took m n = (h : List Entry) × Meets m.0 h × (n ≡ (at_stage m.0 (holds h), (0, Some (board_at m.0.setting h)) ∷ m.1))

abbrev pub took : Tells
took st m r n = (r ≡ 0 → Took m n) × (r ≢ 0 → n ≡ m)

abbrev pub committed : Tells
committed st m r n = n ≡ (saw m.0 (on_board m.1) (owes (kept m.0.stage) (on_board m.1)), m.1)

abbrev pub posted : Tells
posted st m r n = n ≡ (at_stage m.0 (holds (kept m.0.stage)), m.1)

-- the turn and the board are given back, and the history was seen
abbrev pub left : Tells
left st m r n = n ≡ (saw m.0 (kept m.0.stage) away, rest m.1)

-- the same, and nothing was seen
abbrev pub quit : Tells
quit st m r n = n ≡ (at_stage m.0 away, rest m.1)

-- the count of numbers was read under the turn
abbrev pub counting : View → ℕ → View
counting v r = record v { given = r; stage = counts (kept v.stage) }

pub record Counted (m : Token) (r : ℕ) (n : Token) : Type 0 where
  pub now : n ≡ (counting m.0 r, m.1)
  pub grown : m.0.given ≤ r
  pub few : r ≤ 64
  pub callers : callers_below r (kept m.0.stage)
  pub own : (x : ℕ) → times x m.0.held ≤ once_below x r
  -- who holds each number that it knows of knows of all
  pub all : 0 < m.0.given → HoldsEach m.0.given m.0.held → m.0.given ≡ r

abbrev pub counted : Tells
counted st m r n = Counted m r n

-- the next number was drawn
abbrev pub drawing : View → View
drawing v = record v { held = v.given ∷ v.held; given = v.given + 1; stage = counts (kept v.stage) }

abbrev pub drawn : Tells
drawn st m r n = n ≡ (drawing m.0, m.1)

abbrev pub glanced : Tells
glanced st m r n = (m.0.glanced ≤ r) × (n ≡ (record m.0 { glanced = r }, m.1))

abbrev pub lowered : Tells
lowered st m r n = (r ≤ m.0.lowest) × (n ≡ (record m.0 { lowest = r }, m.1))

abbrev pub last_drawn : List ℕ → List ℕ
last_drawn [] = []
last_drawn (n ∷ ns) = n ∷ []

abbrev pub drawn_before : List ℕ → List ℕ
drawn_before [] = []
drawn_before (n ∷ ns) = ns

-- a new seat's view, which gets the number drawn last
abbrev pub newcomer : View → View
newcomer v = record v { held = last_drawn v.held; formers = [] }

-- and that of the seat that drew it, which keeps the others
abbrev pub drawer : View → View
drawer v = record v { held = drawn_before v.held; formers = [] }

abbrev pub longer : List Entry → List Entry → List Entry
longer a b = if nat_lt (length a) (length b) then b else a

-- two views made one
abbrev pub joined : View → View → View
joined v w = record v {
  held = v.held ++ w.held;
  seen = longer v.seen w.seen;
  glanced = max v.glanced w.glanced;
  lowest = min v.lowest w.lowest;
  given = max v.given w.given;
  formers = record { held = v.held; seen = v.seen } ∷ record { held = w.held; seen = w.seen } ∷ [];
}

-- the two saw one history, and hold no number both
pub record Agreed (m : Token) : Type 0 where
  pub history : List Entry
  pub each : EachFormer m.0.held history m.0.formers
  pub single : (x : ℕ) → times x m.0.held ≤ once_below x 64

abbrev pub agreed : Tells
agreed st m r n = (n ≡ m) × Agreed m
