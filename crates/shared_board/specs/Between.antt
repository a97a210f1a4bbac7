-- What the rule says of a table, between any two steps.
use Rattle.std.specs.Prelude.{Option, Some, ◌≡◌, ◌≢◌, ◌⊎◌, ℕ, ◌<◌, ◌≤◌, List, length, true, slice_index}
use mathlib.Core.Option.{some}
use lib.ListN.{get_elem?}
use Rattle.atomic_table.specs.Table.{State}
use Rattle.fixture_board.specs.declared.change.Entry.{Entry}
use Rattle.fixture_board.specs.History.{IsLegal}
use Rattle.fixture_board.specs.Laws.{least_of}
use Rattle.fixture_board.specs.Record.{Book}
use Rattle.shared_board.specs.declared.view.View.{View}
use Rattle.shared_board.specs.Setting.{Setting, board_at}
use Rattle.shared_board.specs.Stage.{Stage, away, holds, counts, owes}
use Rattle.shared_board.specs.Held.{times, HoldsEach, callers_below}
use Rattle.shared_board.specs.Rule.{Knows, Lowest, Added}

abbrev pub Table : Type 0
Table = State (Option Book) View

abbrev pub turn_word : Table → ℕ
turn_word s = slice_index s.words 0

abbrev pub front_word : Table → ℕ
front_word s = slice_index s.words 1

abbrev pub numbers_word : Table → ℕ
numbers_word s = slice_index s.words 2

abbrev pub best_word : Table → ℕ
best_word s = slice_index s.words 3

-- the seat has not been taken in by another
abbrev pub IsThere : Table → ℕ → View → Type 0
IsThere s j v = (get_elem? s.views j ≡ some v) × (v.live ≡ true)

-- the slot has the board with this history
abbrev pub IsHome : Table → Setting → List Entry → Type 0
IsHome s setting history = get_elem? s.homes 0 ≡ some (some (Some (board_at setting history)))

abbrev pub IsExact : Table → Setting → List Entry → Type 0
IsExact s setting history = best_word s ≡ least_of setting.league history

-- The seat has committed an entry of its own, after which the history is the second, and has still to post: the best word
-- is that of the first, and so is each other seat's lowest
pub record IsBehind (s : Table) (setting : Setting) (seat : ℕ) (held : List ℕ) (before history : List Entry) : Type 0 where
  pub added : Added held before history
  pub word : IsExact s setting before
  pub others : (j : ℕ) (v : View) → j ≢ seat → IsThere s j v → Lowest setting v.seen before v.lowest

-- The seat is in its turn, with this history. The best word is exact, but between its commit and its post
abbrev pub IsInTurn : Table → Setting → List Entry → ℕ → List ℕ → Stage → Type 0
IsInTurn s setting history seat held away = ⊥
IsInTurn s setting history seat held (holds h) = (h ≡ history) × IsExact s setting history
IsInTurn s setting history seat held (counts h) = (h ≡ history) × IsExact s setting history
IsInTurn s setting history seat held (owes before h) = (h ≡ history) × IsBehind s setting seat held before history

-- one seat is in its turn
pub record OneHolds (s : Table) (setting : Setting) (history : List Entry) : Type 0 where
  pub seat : ℕ
  pub view : View
  pub there : IsThere s seat view
  pub in_turn : IsInTurn s setting history seat view.held view.stage
  pub no_other : (j : ℕ) (v : View) → j ≢ seat → IsThere s j v → v.stage ≡ away

-- there is one legal history, and each seat stands to it so
pub record Between (s : Table) : Type 0 where
  pub history : List Entry
  pub setting : Setting
  pub legal : IsLegal setting.league setting.room history
  pub front : front_word s ≡ length history
  pub few : numbers_word s ≤ 64
  pub callers : callers_below (numbers_word s) history
  pub settings : (j : ℕ) (v : View) → IsThere s j v → v.setting ≡ setting
  pub seen : (j : ℕ) (v : View) → IsThere s j v → Knows v.held v.seen history
  pub glanced : (j : ℕ) (v : View) → IsThere s j v → v.glanced ≤ length history
  pub lowest : (j : ℕ) (v : View) → IsThere s j v → Lowest setting v.seen history v.lowest
  pub given : (j : ℕ) (v : View) → IsThere s j v → v.given ≤ numbers_word s
  pub held_once : (j : ℕ) (v : View) (x : ℕ) → IsThere s j v → times x v.held ≤ 1
  pub held_below : (j : ℕ) (v : View) (x : ℕ) → IsThere s j v → 0 < times x v.held → x < numbers_word s
  pub held_apart : (i j : ℕ) (u v : View) (x : ℕ) → i ≢ j → IsThere s i u → IsThere s j v → 0 < times x u.held → times x v.held ≡ 0
  -- a seat that holds each number that it knows of knows of all
  pub all_given : (j : ℕ) (v : View) → IsThere s j v → 0 < v.given → HoldsEach v.given v.held → v.given ≡ numbers_word s
  pub turn : (turn_word s ≡ 0) ⊎ (turn_word s ≡ 1)
  pub free : turn_word s ≡ 0 → IsHome s setting history × IsExact s setting history
  pub taken : turn_word s ≡ 1 → OneHolds s setting history
