-- Whole calls, over plain values.
use Rattle.std.proofs.Common.{◌≡◌, ℕ, ◌+◌, ◌<◌, ◌≤◌, max, inl, inr, ◌⊎◌, Option, Some, None, List, [], ◌∷◌, ◌++◌}
use Rattle.std.proofs.Common.{length, refl, ap, sym, ◌∙◌, subst, arith, length-append}
use Rattle.std.proofs.lemmas.List.{append-nil}
use Rattle.std.proofs.lemmas.Bool.Decides.{nat_tests}
use native.Mathlib.Decide.{dec_le}
use Rattle.atomic_table.specs.Table.{rest}
use Rattle.fixture_board.specs.declared.ask.Ask.{Ask}
use Rattle.fixture_board.specs.declared.change.Entry.{Entry}
use Rattle.costs.specs.declared.cost.Cost.{Cost}
use Rattle.fixture_board.specs.declared.reply.Why.{Why}
use Rattle.fixture_board.specs.declared.reply.Reply.{Reply}
use Rattle.fixture_board.specs.declared.reply.Reply.TheVariants.{Done, No}
use Rattle.fixture_board.specs.Laws.{TellsOf}
use Rattle.fixture_board.specs.Record.{Book}
use Rattle.fixture_board.specs.Replies.{entry, next_of}
use Rattle.shared_board.specs.declared.view.View.{View}
use Rattle.shared_board.specs.declared.shared.JudgedAsk.{JudgedAsk}
use Rattle.shared_board.specs.Setting.{Setting, board_at}
use Rattle.shared_board.specs.Stage.{away, holds}
use Rattle.shared_board.specs.within.Stage.{kept}
use Rattle.shared_board.specs.Held.{times, once_below, under, HoldsEach, callers_below}
use Rattle.shared_board.specs.Rule.{Knows}
use Rattle.shared_board.specs.within.Plays.{Token, Meets, Took, Counted, Agreed, counting, drawing, newcomer, joined, longer, saw, at_stage}
use Rattle.shared_board.specs.within.Plays.{on_board}
use Rattle.shared_board.specs.Seats.{BoardId, SeatValue, seat_value, IsConsistent, Met, Answered, IsNew, Absorbed}
use Rattle.shared_board.specs.within.Seats.{HasBoard, IsIdle, IsSeat}
use Rattle.shared_board.specs.within.Ending.{IsSeatAfter, IsOfBoth, BroughtOut, HoldsBelow}
use Rattle.shared_board.specs.within.Judging.{IsJudged}
use Rattle.shared_board.proofs.BoardLaws.{reply_tells}
use Rattle.shared_board.proofs.Counts.{times_append, times_own, times_one, times_self, once_within, all_alike}
use Rattle.shared_board.proofs.Counts.{under_append, under_both, under_most, under_none, under_all, callers_prefix}
use Rattle.shared_board.proofs.Counts.{once_most, once_none, all_held, held_most}
use Rattle.shared_board.proofs.Seating.{longer_cases, begins_longer}

-- what the answer of the board tells
tells : (s : Setting) (h : List Entry) (number : ℕ) (ask : Ask) (j : JudgedAsk) (r : Reply) → IsJudged s h number ask j → j.reply ≡ r
    → TellsOf s.league h (entry number ask) (next_of s.league s.room h number ask) r
tells s h number ask j r judged is =
    let P : Reply → Type 0 = λ x. TellsOf s.league h (entry number ask) (next_of s.league s.room h number ask) x in
    subst P (sym judged.reply ∙ is) (reply_tells s.league s.room h number ask)

-- what it granted is one entry more
pub done_adds : (s : Setting) (h : List Entry) (number : ℕ) (ask : Ask) (j : JudgedAsk) (at : ℕ) (cost : Cost) → IsJudged s h number ask j →
    j.reply ≡ Done at cost
    → next_of s.league s.room h number ask ≡ h ++ entry number ask ∷ []
done_adds s h number ask j at cost judged is = (tells s h number ask j (Done at cost) judged is).0

-- and what it refused is none
pub no_stays : (s : Setting) (h : List Entry) (number : ℕ) (ask : Ask) (j : JudgedAsk) (at : ℕ) (why : Why) → IsJudged s h number ask j →
    j.reply ≡ No at why
    → next_of s.league s.room h number ask ≡ h
no_stays s h number ask j at why judged is = (tells s h number ask j (No at why) judged is).0

-- a seat's entries in the history that it met are those that it had seen
accepted_same : (v : View) (h : List Entry) → Meets v h → under v.held h ≡ under v.held v.seen
accepted_same v h met =
    let k = met.met.knows in ap (under v.held) k.begins ∙ (let a = under_append v.held v.seen k.after in let b = k.none_after in omega
    arith)

-- and one more after a change of its own
accepted_more : (v : View) (h g : List Entry) (number : ℕ) (ask : Ask) → 0 < times number v.held → Meets v h → g ≡ h ++
    entry number ask ∷ []
    → under v.held g ≡ under v.held v.seen + 1
accepted_more v h g number ask own met is =
    let a = ap (under v.held) is in let b = under_append v.held h (entry number ask ∷ []) in let c = accepted_same v h met in let d =
    met.single number in omega arith

-- the fields of a seat that has seen a history
seat_saw : (me n : Token) (number held seen accepted : ℕ) (g : List Entry) (version more : ℕ) → IsSeat me number held seen accepted
    → n ≡ (saw me.0 g away, []) → version ≡ length g → more ≡ under me.0.held g → IsSeat n number held version more
seat_saw me n number held seen accepted g version more seat is long entries =
    let P : Token → Type 0 = λ m. IsSeat m number held version more in
    subst P (sym is) (record {
      idle = record { live = seat.idle.live; away_is = refl; no_slot = refl };
      own = seat.own;
      single = seat.single;
      count = seat.count;
      long = long;
      entries = entries;
      below = seat.below;
      ahead = omega arith;
    })

consistent_of : (table : BoardId) (me : Token) (number held seen accepted : ℕ) → IsSeat me number held seen accepted →
    IsConsistent (seat_value table number me.0)
consistent_of table me number held seen accepted seat =
    record { own = omega (arith, seat.own, seat.single number); single = seat.single; below = seat.below; ahead = seat.ahead }

met_of : (table : BoardId) (number : ℕ) (v : View) (h : List Entry) → Meets v h → Met (seat_value table number v) h
met_of table number v h met = met.met

-- a seat knows at least of its own number
pub some_given : (me : Token) (number held seen accepted : ℕ) → IsSeat me number held seen accepted → 0 < me.0.given
some_given me number held seen accepted seat =
    elim (dec_le 1 me.0.given) [ yes le ↦ omega arith | no more ↦ absurd (omega (arith, seat.own, seat.below number (omega arith))) ]

-- what it has out is the board
pub board_out : (m : Token) → HasBoard m (on_board m.1) → (b : Option Book) × (m.1 ≡ (0, b) ∷ rest m.1)
board_out m has =
    let b : Option Book = Some (board_at m.0.setting (on_board m.1)) in
    (b, has ∙ ap (λ (l : List (ℕ × Option Book)). (0, b) ∷ rest l) (sym has))

-- a turn in which the board was asked, as its steps tell it: before, under the turn, after the board answered, and after
pub record Asked (me taken told done : Token) (number : ℕ) (ask : Ask) (j : JudgedAsk) : Type 0 where
  pub took : Took me taken
  pub same : told.0 ≡ taken.0
  pub judged : IsJudged taken.0.setting (on_board taken.1) number ask j
  pub left : done ≡ (saw told.0 (next_of told.0.setting.league told.0.setting.room (kept told.0.stage) number ask) away, [])

asked_judged : (me taken told done : Token) (number : ℕ) (ask : Ask) (j : JudgedAsk) (a : Asked me taken told done number ask j) →
    IsJudged me.0.setting a.took.0 number ask j
asked_judged me taken told done number ask j a =
    let P : Token → Type 0 = λ m. IsJudged m.0.setting (on_board m.1) number ask j in subst P a.took.2 a.judged

asked_left : (me taken told done : Token) (number : ℕ) (ask : Ask) (j : JudgedAsk) (a : Asked me taken told done number ask j)
    → done ≡ (saw me.0 (next_of me.0.setting.league me.0.setting.room a.took.0 number ask) away, [])
asked_left me taken told done number ask j a =
    let f : View → Token = λ v. (saw v (next_of v.setting.league v.setting.room (kept v.stage) number ask) away, []) in
    a.left ∙ ap f (a.same ∙ ap (λ (m : Token). m.0) a.took.2)

pub seat_after : (me taken told done : Token) (number held seen accepted : ℕ) (ask : Ask) (j : JudgedAsk) (r : Reply) →
    IsSeat me number held seen accepted
    → Asked me taken told done number ask j → j.reply ≡ r → IsSeatAfter done number held accepted r
seat_after me taken told done number held seen accepted ask j (Done at cost) seat a is =
    let s = me.0.setting in let h = a.took.0 in let judged = asked_judged me taken told done number ask j a in
    let g = next_of s.league s.room h number ask in
    let t = tells s h number ask j (Done at cost) judged is in
    let e = seat.entries in let b = under_most me.0.held g a.took.1.single in
    let more = accepted_more me.0 h g number ask seat.own a.took.1 t.0 in
    let long : at ≡ length g = t.1 in (
      seat_saw me done number held seen accepted g at (accepted + 1) seat (asked_left me taken told done number ask j a) long (omega arith),
      omega arith,
    )
seat_after me taken told done number held seen accepted ask j (No at why) seat a is =
    let s = me.0.setting in let h = a.took.0 in let judged = asked_judged me taken told done number ask j a in
    let g = next_of s.league s.room h number ask in
    let t = tells s h number ask j (No at why) judged is in
    seat_saw me done number held seen accepted g at accepted seat (asked_left me taken told done number ask j a) t.1
    (seat.entries ∙ (sym (accepted_same me.0 h a.took.1) ∙ ap (under me.0.held) (sym t.0)))

pub answered : (table : BoardId) (me taken told done : Token) (number held seen accepted : ℕ) (ask : Ask) (j : JudgedAsk) →
    Asked me taken told done number ask j
    → IsSeat me number held seen accepted → Answered (seat_value table number me.0) (seat_value table number done.0) ask j.reply
answered table me taken told done number held seen accepted ask j a seat =
    let h = a.took.0 in let judged = asked_judged me taken told done number ask j a in
    record {
      seat = consistent_of table me number held seen accepted seat;
      history = h;
      met = met_of table number me.0 h a.took.1;
      replied = judged.reply;
      now = ap (λ (m : Token). seat_value table number m.0) (asked_left me taken told done number ask j a);
    }

-- a turn in which nothing was asked
pub record Saw (me taken read done : Token) : Type 0 where
  pub took : Took me taken
  pub same : read ≡ taken
  pub left : done ≡ (saw read.0 (kept read.0.stage) away, [])

saw_left : (me taken read done : Token) (a : Saw me taken read done) → done ≡ (saw me.0 a.took.0 away, [])
saw_left me taken read done a =
    let f : Token → Token = λ m. (saw m.0 (kept m.0.stage) away, []) in a.left ∙ ap f (a.same ∙ a.took.2)

saw_board : (me taken read done : Token) (a : Saw me taken read done) → on_board taken.1 ≡ a.took.0
saw_board me taken read done a = ap (λ (m : Token). on_board m.1) a.took.2

pub seat_looked : (me taken read done : Token) (number held seen accepted version : ℕ) → IsSeat me number held seen accepted →
    Saw me taken read done → version ≡ length (on_board taken.1)
    → IsSeat done number held version accepted
seat_looked me taken read done number held seen accepted version seat a long =
    let h = a.took.0 in
    seat_saw me done number held seen accepted h version accepted seat (saw_left me taken read done a)
    (long ∙ ap length (saw_board me taken read done a))
    (seat.entries ∙ sym (accepted_same me.0 h a.took.1))

new_below : (r x : ℕ) → r + 1 ≤ x → times x (r ∷ []) ≡ 0
new_below r x le = let P = once_none x (r + 1) le in grind (arith, nat_tests)

nothing_after : (a b : List Entry) → length b ≡ 0 → a ++ b ≡ a
nothing_after a [] e = append-nil a
nothing_after a (x ∷ b) e = absurd (omega arith)

-- of two histories that one begins, the longer is known to the seat that saw less
knows_less : (held : List ℕ) (less more h : List Entry) (other : List ℕ) → length less ≤ length more → Knows held less h →
    Knows other more h → Knows held less more
knows_less held less more h other le k l =
    let b = begins_longer less more k.after l.after (sym k.begins ∙ l.begins) le in
    record {
      after = b.0;
      begins = b.1;
      none_after =
          (let u = under_append held b.0 l.after in let w = ap (under held) b.2 in let z = k.none_after in omega arith);
    }

seen_by : (held : List ℕ) (less more h : List Entry) (other : List ℕ) → length less ≤ length more → Knows held less h →
    Knows other more h → under held more ≡ under held less
seen_by held less more h other le k l =
    let n = knows_less held less more h other le k l in
    ap (under held) n.begins ∙ (let u = under_append held less n.after in let z = n.none_after in omega arith)

-- a seat that has read under the turn how many numbers are given out
pub record Read (me taken counted : Token) (r : ℕ) : Type 0 where
  pub took : Took me taken
  pub count : Counted taken r counted

read_taken : (me taken counted : Token) (r : ℕ) (a : Read me taken counted r) → taken.0 ≡ at_stage me.0 (holds a.took.0)
read_taken me taken counted r a = ap (λ (m : Token). m.0) a.took.2

-- the seat, once it has drawn one more
abbrev pub drawn_view : View → ℕ → View
drawn_view v r = record v { held = r ∷ v.held; given = r + 1; stage = away }

pub drawn_away : (me taken counted : Token) (r : ℕ) (a : Read me taken counted r) → at_stage (drawing counted.0) away ≡ drawn_view me.0 r
drawn_away me taken counted r a =
    ap (λ (m : Token). at_stage (drawing m.0) away) a.count.now ∙
    ap (λ (v : View). at_stage (drawing (counting v r)) away) (read_taken me taken counted r a)

read_later : (me taken counted : Token) (r : ℕ) → Read me taken counted r → me.0.given ≤ r
read_later me taken counted r a =
    let P : View → Type 0 = λ v. v.given ≤ r in subst P (read_taken me taken counted r a) a.count.grown

-- its own number is its own still
pub read_own : (me taken counted : Token) (r number : ℕ) → Read me taken counted r → 0 < times number me.0.held →
    0 < times number counted.0.held
read_own me taken counted r number a own =
    let P : Token → Type 0 = λ m. 0 < times number m.0.held in
    let Q : View → Type 0 = λ v. 0 < times number v.held in
    subst P (sym a.count.now) (subst Q (sym (read_taken me taken counted r a)) own)

-- no entry that was seen is under the new number
read_none : (me taken counted : Token) (r : ℕ) → Read me taken counted r → under (r ∷ []) me.0.seen ≡ 0
read_none me taken counted r a =
    let P : View → Type 0 = λ v. callers_below r (kept v.stage) in
    let all : callers_below r a.took.0 = subst P (read_taken me taken counted r a) a.count.callers in
    let k = a.took.1.met.knows in
    let Q : List Entry → Type 0 = λ l. callers_below r l in
    under_none (r ∷ []) r me.0.seen (callers_prefix r me.0.seen k.after (subst Q k.begins all)) (λ x less. times_own r x less)

-- the view of the new seat
abbrev new_view : View → ℕ → View
new_view v r = record v { held = r ∷ []; formers = []; given = r + 1; stage = away }

new_is : (me taken counted drawn new : Token) (r : ℕ) → Read me taken counted r → drawn ≡ (at_stage (drawing counted.0) away, []) →
    new ≡ (newcomer drawn.0, []) → new ≡ (new_view me.0 r, [])
new_is me taken counted drawn new r a is given_is = given_is ∙
    ap (λ (v : View). (newcomer v, [])) (ap (λ (m : Token). m.0) is ∙ drawn_away me taken counted r a)

pub new_seat : (me taken counted drawn new : Token) (r number held seen accepted : ℕ) → IsSeat me number held seen accepted →
    Read me taken counted r
    → drawn ≡ (at_stage (drawing counted.0) away, []) → new ≡ (newcomer drawn.0, []) → IsSeat new r 1 seen 0
new_seat me taken counted drawn new r number held seen accepted seat a is given_is =
    let P : Token → Type 0 = λ m. IsSeat m r 1 seen 0 in
    subst P (sym (new_is me taken counted drawn new r a is given_is)) (record {
      idle = record { live = seat.idle.live; away_is = refl; no_slot = refl };
      own = omega (arith, times_self r);
      single = λ x. times_one r x;
      count = refl;
      long = seat.long;
      entries = sym (read_none me taken counted r a);
      below = λ x le. new_below r x le;
      ahead = seat.ahead;
    })

pub is_new : (table after : BoardId) (me taken counted drawn new : Token) (r number held seen accepted : ℕ) → after ≡ table → r < 64 →
    IsSeat me number held seen accepted → Read me taken counted r
    → drawn ≡ (at_stage (drawing counted.0) away, []) → new ≡ (newcomer drawn.0, []) →
    IsNew (seat_value table number me.0) (seat_value after r new.0)
is_new table after me taken counted drawn new r number held seen accepted same few seat a is given_is = record {
  now = ap (λ (t : BoardId). seat_value t r new.0) same ∙
      ap (λ (m : Token). seat_value table r m.0) (new_is me taken counted drawn new r a is given_is);
  few = few;
  later = read_later me taken counted r a;
  own = seat.below r (read_later me taken counted r a);
  no_entry = read_none me taken counted r a;
}

-- what two seats that were made one were told
pub record Both (v w : View) : Type 0 where
  pub history : List Entry
  pub first : Knows v.held v.seen history
  pub second : Knows w.held w.seen history
  pub single : (x : ℕ) → times x (v.held ++ w.held) ≤ once_below x 64

told_both : (me other : Token) → Agreed (joined me.0 other.0, me.1) → Both me.0 other.0
told_both me other p = record { history = p.history; first = p.each.1; second = p.each.2.1; single = p.single }

-- what the longer of the two histories has under the numbers of both
entries_both : (v w : View) → Both v w → under (v.held ++ w.held) (longer v.seen w.seen) ≡ under v.held v.seen + under w.held w.seen
entries_both v w b =
    let P : List Entry → Type 0 = λ l. under (v.held ++ w.held) l ≡ under v.held v.seen + under w.held w.seen in
    longer_cases P v.seen w.seen
    (λ less.
    let k = seen_by v.held v.seen w.seen b.history w.held (omega arith) b.first b.second in
    omega (arith, under_both v.held w.held w.seen, k))
    (λ less.
    let k = seen_by w.held w.seen v.seen b.history v.held less b.second b.first in
    omega (arith, under_both v.held w.held v.seen, k))

held_fits : (v w : View) → Both v w → length v.held + length w.held ≤ 64
held_fits v w b = omega (arith, held_most 64 (v.held ++ w.held) b.single, length-append v.held w.held)

longer_length : (a b : List Entry) → length (longer a b) ≡ max (length a) (length b)
longer_length a b = let P : List Entry → Type 0 = λ l. length l ≡ max (length a) (length b) in
    longer_cases P a b (λ less. omega arith) (λ le. omega arith)

pub of_both : (me other done : Token) → IsIdle me → done ≡ (joined me.0 other.0, me.1) → Agreed done → IsOfBoth me other done
of_both me other done idle is told =
    let v = me.0 in let w = other.0 in
    let both = told_both me other (subst Agreed is told) in
    let P : Token → Type 0 = λ m. IsOfBoth me other m in
    subst P (sym is) (record {
      idle = record { live = idle.live; away_is = idle.away_is; no_slot = idle.no_slot };
      own = λ x. times_append x v.held w.held;
      single = λ x. omega (arith, both.single x, once_most x 64);
      count = length-append v.held w.held;
      few = omega (arith, held_fits v w both, length-append v.held w.held);
      long = longer_length v.seen w.seen;
      entries = entries_both v w both;
      most = under_most (v.held ++ w.held) (longer v.seen w.seen) (λ x. let a = both.single x in let c = once_most x 64 in omega arith);
      ahead = λ mine theirs. omega (arith, longer_length v.seen w.seen);
      below = λ mine theirs x le. (let c = mine x (omega arith) in let d = theirs x (omega arith) in
          omega (arith, times_append x v.held w.held));
    })

pub absorbed : (table table' after : BoardId) (me other done : Token) (number number' : ℕ) (a o : SeatValue) → after ≡ table →
    done ≡ (joined me.0 other.0, me.1) → Agreed done
    → seat_value table number me.0 ≡ a → seat_value table' number' other.0 ≡ o → Absorbed a o (seat_value after number done.0)
absorbed table table' after me other done number number' a o same is told first second =
    let v = me.0 in let w = other.0 in
    let b = told_both me other (subst Agreed is told) in
    let K : List Entry → Type 0 = λ l. ((l ≡ v.seen) × Knows w.held w.seen v.seen) ⊎ ((l ≡ w.seen) × Knows v.held v.seen w.seen) in
    let made : Absorbed (seat_value table number v) (seat_value table' number' w) (seat_value table number (joined v w)) = record {
      kept = longer_cases K v.seen w.seen
          (λ less. inr (refl, knows_less v.held v.seen w.seen b.history w.held (omega arith) b.first b.second))
          (λ less. inl (refl, knows_less w.held w.seen v.seen b.history v.held less b.second b.first));
      apart = λ x. (let c = b.single x in let d = once_most x 64 in omega (arith, times_append x v.held w.held));
      now = refl;
    } in
    let A : SeatValue → Type 0 = λ t. Absorbed t o (seat_value after number done.0) in
    let O : SeatValue → Type 0 = λ t. Absorbed (seat_value table number v) t (seat_value after number done.0) in
    let B : SeatValue → Type 0 = λ t. Absorbed (seat_value table number v) (seat_value table' number' w) t in
    let result : seat_value table number (joined v w) ≡ seat_value after number done.0 =
    ap (λ (t : BoardId). seat_value t number (joined v w)) (sym same) ∙ ap (λ (m : Token). seat_value after number m.0) (sym is) in
    subst A first (subst O second (subst B result made))

-- where a seat holds each number, the history that it met is what it had seen
whole_seen : (v : View) (h : List Entry) (r : ℕ) → Meets v h → callers_below r h → ((x : ℕ) → times x v.held ≤ once_below x r) →
    length v.held ≡ r
    → (h ≡ v.seen) × (under v.held v.seen ≡ length h)
whole_seen v h r met below own all =
    let k = met.met.knows in
    let e = under_all v.held r h below (all_held r v.held all own) in
    let s = accepted_same v h met in
    let m = under_most v.held v.seen met.single in
    let l : length h ≡ length v.seen + length k.after = ap length k.begins ∙ length-append v.seen k.after in
    (k.begins ∙ nothing_after v.seen k.after (omega arith), omega arith)

-- the board that a seat has, where it has one
abbrev board_or : Book → Option Book → Book
board_or none_there None = none_there
board_or none_there (Some b) = b

abbrev in_hand : Book → List (ℕ × Option Book) → Book
in_hand none_there [] = none_there
in_hand none_there (x ∷ xs) = board_or none_there x.1

pub has_board : (me taken counted : Token) (r : ℕ) (t : Took me taken) → Counted taken r counted → me.1 ≡ [] →
    counted.1 ≡ (0, Some (board_at me.0.setting t.0)) ∷ []
has_board me taken counted r t count nothing =
    ap (λ (m : Token). m.1) count.now ∙
    (ap (λ (m : Token). m.1) t.2 ∙ ap (λ (l : List (ℕ × Option Book)). (0, Some (board_at me.0.setting t.0)) ∷ l) nothing)

pub brought_out : (me taken counted : Token) (r : ℕ) (b : Book) → me.1 ≡ [] → 0 < me.0.given → HoldsBelow me → Took me taken →
    Counted taken r counted → counted.1 ≡ (0, Some b) ∷ rest counted.1
    → BroughtOut me b r
brought_out me taken counted r b nothing some_given below t count found =
    let h = t.0 in
    let c = has_board me taken counted r t count nothing in
    let K : Token → Type 0 = λ m. callers_below r (kept m.0.stage) in
    let O : Token → Type 0 = λ m. (x : ℕ) → times x m.0.held ≤ once_below x r in
    let A : Token → Type 0 = λ m. 0 < m.0.given → HoldsEach m.0.given m.0.held → m.0.given ≡ r in
    record {
      history = h;
      met = t.1;
      board_is = ap (in_hand b) (sym found ∙ c);
      all = all_alike me.0.given r me.0.held (read_later me taken counted r (record { took = t; count = count }))
          (λ x. once_within x me.0.given (times x me.0.held) (t.1.single x) (below x))
          (subst A t.2 count.all some_given);
      whole = λ all. whole_seen me.0 h r t.1 (subst K t.2 count.callers) (subst O t.2 count.own) all;
    }
