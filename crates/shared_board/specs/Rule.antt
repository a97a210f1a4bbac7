-- The rule that holds between any two steps.
use Rattle.std.specs.Prelude.{Option, Some, ◌≡◌, ◌≢◌, ◌⊎◌, ℕ, ◌<◌, ◌≤◌, List, [], ◌∷◌, ◌++◌, length, true}
use mathlib.Core.Option.{none, some}
use mathlib.Core.Option as maybe
use lib.ListN.{get_elem?}
use Rattle.atomic_table.specs.Table.{State}
use Rattle.league.specs.League.{IsLeague}
use Rattle.fixture_board.specs.declared.change.Entry.{Entry}
use Rattle.fixture_board.specs.History.{IsLegal}
use Rattle.fixture_board.specs.Laws.{least_of}
use Rattle.fixture_board.specs.Record.{Book}
use Rattle.shared_board.specs.declared.view.View.{View}
use Rattle.shared_board.specs.Setting.{Setting, board_at}
use Rattle.shared_board.specs.Stage.{Stage, Former, away, holds, counts, owes}
use Rattle.shared_board.specs.Held.{times, once_below, total, under, callers_below}

-- the history begins with what was seen, and has after it no entry under a number that is held
pub record Knows (held : List ℕ) (seen history : List Entry) : Type 0 where
  pub after : List Entry
  pub begins : history ≡ seen ++ after
  pub none_after : under held after ≡ 0

-- it is the best total at some point of the history that is no earlier than what was seen
pub record Lowest (setting : Setting) (seen history : List Entry) (lowest : ℕ) : Type 0 where
  pub more : List Entry
  pub rest : List Entry
  pub point : history ≡ (seen ++ more) ++ rest
  pub least : lowest ≡ least_of setting.league (seen ++ more)

-- each of the seats that were made one held numbers that are held, and knows the history
abbrev pub EachFormer : List ℕ → List Entry → List Former → Type 0
EachFormer held history [] = Unit {0}
EachFormer held history (p ∷ ps) =
    ((x : ℕ) → times x p.held ≤ times x held) × Knows p.held p.seen history × EachFormer held history ps

-- what a view has to do with the history. `long` is its length as all may read it
pub record Fits (setting : Setting) (history : List Entry) (long numbers : ℕ) (v : View) : Type 0 where
  pub setting_is : v.setting ≡ setting
  pub knows : Knows v.held v.seen history
  pub glanced : v.glanced ≤ long
  pub lowest : Lowest setting v.seen history v.lowest
  pub given : v.given ≤ numbers
  pub formers : EachFormer v.held history v.formers

-- the history that a seat's view is a part of
abbrev pub upto : Stage → List Entry → List Entry → List Entry
upto away posted history = posted
upto (holds h) posted history = posted
upto (counts h) posted history = posted
upto (owes before h) posted history = history

-- the second list is the first with one entry more, under a number that is held
pub record Added (held : List ℕ) (before after : List Entry) : Type 0 where
  pub entry : Entry
  pub one_more : after ≡ before ++ entry ∷ []
  pub own : 0 < times entry.caller held

-- what the stage of the seat that holds the turn says, if it holds these numbers and has read `given`
abbrev pub IsHolder : List Entry → List Entry → ℕ → List ℕ → ℕ → Stage → Type 0
IsHolder posted history numbers held given away = ⊥
IsHolder posted history numbers held given (holds h) = (h ≡ history) × (posted ≡ history)
IsHolder posted history numbers held given (counts h) = (h ≡ history) × (posted ≡ history) × (given ≡ numbers)
IsHolder posted history numbers held given (owes before h) = (h ≡ history) × (before ≡ posted) × Added held posted history

-- no seat holds the turn, and the board is at home
pub record IsFree (setting : Setting) (posted history : List Entry) (turn : ℕ) (home : maybe.Option (Option Book))
    (views : List View) : Type 0 where
  pub turn_is : turn ≡ 0
  pub home_is : home ≡ some (Some (board_at setting history))
  pub all_posted : posted ≡ history
  pub all_away : (j : ℕ) (v : View) → get_elem? views j ≡ some v → v.stage ≡ away

-- one seat holds the turn, and has the board
pub record IsHeld (posted history : List Entry) (numbers turn : ℕ) (home : maybe.Option (Option Book)) (views : List View) : Type 0 where
  pub turn_is : turn ≡ 1
  pub home_is : home ≡ none
  pub seat : ℕ
  pub view : View
  pub there : get_elem? views seat ≡ some view
  pub live : view.live ≡ true
  pub holder : IsHolder posted history numbers view.held view.given view.stage
  pub others_away : (j : ℕ) (v : View) → j ≢ seat → get_elem? views j ≡ some v → v.stage ≡ away

-- each seat that holds the first number has read that the second is given out
abbrev pub AllRead : ℕ → ℕ → List View → Type 0
AllRead by n views = (j : ℕ) (v : View) → get_elem? views j ≡ some v → 0 < times by v.held → n < v.given

-- the number was drawn by a seat that held a lower one
pub record IsDrawn (n : ℕ) (views : List View) : Type 0 where
  pub by : ℕ
  pub lower : by < n
  pub read : AllRead by n views

-- The words are the turn, the length of the history, how many numbers are given out, and the best total. Between a
-- commit and its post the best total is that of a history shorter by one entry, `posted`
pub record Ruled (s : State (Option Book) View) : Type 0 where
  pub setting : Setting
  pub posted : List Entry
  pub history : List Entry
  pub turn : ℕ
  pub numbers : ℕ
  pub home : maybe.Option (Option Book)
  pub words : s.words ≡ turn ∷ length history ∷ numbers ∷ least_of setting.league posted ∷ []
  pub homes : s.homes ≡ home ∷ []
  pub limits : IsLeague setting.league
  pub legal : IsLegal setting.league setting.room history
  pub callers : callers_below numbers history
  pub few : numbers ≤ 64
  -- each number below `numbers` is held once at most, and no other number is
  pub once : (x : ℕ) → total (λ (v : View). times x v.held) s.views ≤ once_below x numbers
  pub drawn : (n : ℕ) → 0 < n → n < numbers → IsDrawn n s.views
  pub seats : (j : ℕ) (v : View) → get_elem? s.views j ≡ some v → v.live ≡ true →
      Fits setting (upto v.stage posted history) (length history) numbers v
  pub turns : IsFree setting posted history turn home s.views ⊎ IsHeld posted history numbers turn home s.views
