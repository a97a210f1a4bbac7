-- A legal history, given as a script, is accepted line by line and leads to the same changes, games, pins and best.
use Rattle.std.proofs.Common.{◌≡◌, ℕ, ◌+◌, ◌^◌, ◌<◌, Bool, false, not, nat_lt, if◌then◌else◌, ◌==◌}
use Rattle.std.proofs.Common.{List, [], ◌∷◌, ◌++◌, length, Option, Some, None, refl, sym, ◌∙◌, ap, subst, append_assoc}
use Rattle.std.proofs.Common.{append-nil, arith}
use Rattle.std.proofs.lemmas.Bool.{and_right, le-ltb, ne_eqb}
use Rattle.league.specs.League.{LeagueData, IsLeague}
use Rattle.fixtures.specs.declared.game.Game.{Game}
use Rattle.moves.specs.declared.moves.Move.{Move}
use Rattle.moves.specs.Moves.{moved}
use Rattle.costs.specs.Costs.{cost_of, score_of}
use Rattle.fixture_board.specs.declared.change.Change.{Change}
use Rattle.fixture_board.specs.declared.change.Change.TheVariants.{Shift, Pin, Unpin, Undo}
use Rattle.fixture_board.specs.declared.change.Entry.{Entry}
use Rattle.costs.specs.declared.cost.Cost.{Cost}
use Rattle.fixture_board.specs.declared.ask.Ask.{Ask}
use Rattle.fixture_board.specs.declared.reply.Why.{Why}
use Rattle.fixture_board.specs.declared.reply.Reply.TheVariants.{Done}
use Rattle.fixture_board.specs.History.{effective, games_of, pins_of, Fits, May, legal_after}
use Rattle.fixture_board.specs.History.{IsLegal, cost_at}
use Rattle.fixture_board.specs.Replies.{change_of, is_bad, is_meeting, refusal_at, refusal, entry, next_of, reply_of}
use Rattle.fixture_board.specs.Replies.{ask_of, played_from, answers_from}
use Rattle.fixture_board.specs.Replay.{changes_of, under_caller_0, AllDone, IsReplayed}
use Rattle.fixture_board.proofs.Callers.{under-more, length-under, effective-under, games_of-under, pins_of-under, best_of-under}
use Rattle.fixture_board.proofs.OneMore.{games_of-more, accepted, replies_done}
use Rattle.fixture_board.proofs.Scored.{IsScored, IsScored-league}
use Rattle.fixture_board.proofs.Stand.{FitFrom, FitFrom-more, AllStand-fit, pinned_stands}

-- the row doesn't apply, and none after it
none_after : {test : Bool} (reason : Why) {rest : Option Why} → test ≡ false → rest ≡ None →
    (if test then Some reason else rest) ≡ None
none_after reason never after = rw never after

-- a change that can be made is granted: by its kind

not_ahead : (at : ℕ) → nat_lt at at ≡ false
not_ahead at = le-ltb at at (omega arith)

not_full : (at room : ℕ) → at < room → (at == room) ≡ false
not_full at room under = ne_eqb at room (omega arith)

pub granted-shift : (league : LeagueData) (room : ℕ) (h : List Entry) (mv : Move) → IsScored league → length h < room →
    Fits (games_of league h) (pins_of league h) (Shift mv) → refusal league room h (ask_of (length h) (Shift mv)) ≡ None
unfolding refusal
granted-shift league room h mv scored under fits =
    let e : Entry = record { caller = 0; change = Shift mv } in
    let after : cost_at league (h ++ e ∷ []) ≡ cost_of league (moved (games_of league h) mv) =
    unfold cost_at in ap (cost_of league) (games_of-more league h e refl) in
    let few : score_of league (cost_of league (moved (games_of league h) mv)) < 2 ^ 64 =
    subst (λ cost. score_of league cost < 2 ^ 64) after (scored (h ++ e ∷ [])) in
    none_after _ (not_ahead (length h))
    (none_after _ (not_full (length h) room under)
    (none_after _ (ap is_bad fits.0)
    (none_after _ (ap is_meeting fits.0)
    (none_after _ fits.1
    (none_after _ (and_right (length h == length h) false refl)
    (none_after _
    (le-ltb (score_of league (cost_of league (games_of league h)) + 18446744073709551615)
    (score_of league (cost_of league (moved (games_of league h) mv)))
    (omega arith))
    refl))))))

granted-pin : (league : LeagueData) (room : ℕ) (h : List Entry) (game : Game) → length h < room →
    Fits (games_of league h) (pins_of league h) (Pin game) → refusal league room h (ask_of (length h) (Pin game)) ≡ None
unfolding refusal
granted-pin league room h game under fits =
    none_after _ (not_ahead (length h))
    (none_after _ (not_ahead (length h))
    (none_after _ (not_full (length h) room under)
    (none_after _ (ap not fits.0) (none_after _ (ap not fits.1) (none_after _ fits.2 refl)))))

granted-unpin : (league : LeagueData) (room : ℕ) (h : List Entry) (game : Game) → IsLeague league → length h < room →
    FitFrom league (effective h) → Fits (games_of league h) (pins_of league h) (Unpin game) →
    refusal league room h (ask_of (length h) (Unpin game)) ≡ None
unfolding refusal
granted-unpin league room h game is under all fits =
    let stands = pinned_stands (games_of league h) (pins_of league h) game (AllStand-fit league h is all) fits in
    none_after _ (not_ahead (length h))
    (none_after _ (not_ahead (length h))
    (none_after _ (not_full (length h) room under)
    (none_after _ (ap not stands.0) (none_after _ (ap not stands.1) (none_after _ (ap not fits) refl)))))

granted-undo : (league : LeagueData) (room : ℕ) (h : List Entry) → length h < room → 0 < length (effective h) →
    refusal league room h (ask_of (length h) Undo) ≡ None
unfolding refusal
granted-undo league room h under some =
    none_after _ (not_ahead (length h))
    (none_after _ (not_ahead (length h))
    (none_after _ (not_full (length h) room under)
    (none_after _ (ne_eqb (length (effective h)) 0 (omega arith)) refl)))

granted : (league : LeagueData) (room : ℕ) (h : List Entry) (change : Change) → IsLeague league → length h < room →
    FitFrom league (effective h) → May league h change → refusal league room h (ask_of (length h) change) ≡ None
granted league room h (Shift mv) is under all may = granted-shift league room h mv (IsScored-league league is) under may
granted league room h (Pin game) is under all may = granted-pin league room h game under may
granted league room h (Unpin game) is under all may = granted-unpin league room h game is under all may
granted league room h Undo is under all may = granted-undo league room h under may

-- a call is refused alike after a history and after the same under caller 0

refusal-under : (league : LeagueData) (room : ℕ) (h : List Entry) (change : Change) →
    refusal league room (under_caller_0 h) (ask_of (length (under_caller_0 h)) change) ≡
    refusal league room h (ask_of (length h) change)
unfolding refusal
refusal-under league room h change =
    ap (λ at. refusal_at league room at (length (effective (under_caller_0 h))) (games_of league (under_caller_0 h))
    (pins_of league (under_caller_0 h)) (ask_of at change)) (length-under h) ∙
    ap (λ changes. refusal_at league room (length h) (length changes) (games_of league (under_caller_0 h))
    (pins_of league (under_caller_0 h)) (ask_of (length h) change)) (effective-under h) ∙
    ap (λ g. refusal_at league room (length h) (length (effective h)) g (pins_of league (under_caller_0 h))
    (ask_of (length h) change)) (games_of-under league h) ∙
    ap (λ pins. refusal_at league room (length h) (length (effective h)) (games_of league h) pins
    (ask_of (length h) change)) (pins_of-under league h)

-- a line after another

change_of-ask_of : (version : ℕ) (change : Change) → change_of (ask_of version change) ≡ change
change_of-ask_of version (Shift mv) = refl
change_of-ask_of version (Pin game) = refl
change_of-ask_of version (Unpin game) = refl
change_of-ask_of version Undo = refl

-- what a line leads to, and its answer
record Granted (league : LeagueData) (room : ℕ) (before : List Entry) (e : Entry) (ask : Ask) : Type 0 where
  next : next_of league room (under_caller_0 before) 0 ask ≡ under_caller_0 (before ++ e ∷ [])
  at : ℕ
  cost : Cost
  reply : reply_of league room (under_caller_0 before) ask ≡ Done at cost

line-granted : (league : LeagueData) (room : ℕ) (before : List Entry) (e : Entry) → IsLeague league →
    length before < room → FitFrom league (effective before) → May league before e.change →
    Granted league room before e (ask_of (length (under_caller_0 before)) e.change)
line-granted league room before e is under all may =
    let ask : Ask = ask_of (length (under_caller_0 before)) e.change in
    let none : refusal league room (under_caller_0 before) ask ≡ None =
    refusal-under league room before e.change ∙ granted league room before e.change is under all may in
    record {
      next = accepted league room (under_caller_0 before) 0 ask none ∙
          ap (λ change. under_caller_0 before ++ record { caller = 0; change = change } ∷ [])
          (change_of-ask_of (length (under_caller_0 before)) e.change) ∙
          sym (under-more before e);
      at = length (under_caller_0 before) + 1;
      cost = cost_at league (under_caller_0 before ++ entry 0 ask ∷ []);
      reply = replies_done league room (under_caller_0 before) ask none;
    }

-- the lines from a history on
record Played (league : LeagueData) (room : ℕ) (before h : List Entry) : Type 0 where
  history : played_from league room (under_caller_0 before) (changes_of h) ≡ under_caller_0 (before ++ h)
  accepted : AllDone (answers_from league room (under_caller_0 before) (changes_of h))

played : (league : LeagueData) (room : ℕ) (before h : List Entry) → IsLeague league → FitFrom league (effective before) →
    legal_after league room before h → Played league room before h
played league room before [] is all legal = record {
  history = ap under_caller_0 (sym (append-nil before));
  accepted = tt;
}
played league room before (e ∷ h) is all legal =
    let line = line-granted league room before e is legal.0.0 all legal.0.1 in
    let later : Played league room (before ++ e ∷ []) h =
    played league room (before ++ e ∷ []) h is (FitFrom-more league before e all legal.0.1) legal.1 in
    record {
      history = ap (λ x. played_from league room x (changes_of h)) line.next ∙ later.history ∙
          ap under_caller_0 (append_assoc before (e ∷ []) h);
      accepted =
          subst (λ reply. AllDone (reply ∷ answers_from league room
          (next_of league room (under_caller_0 before) 0 (ask_of (length (under_caller_0 before)) e.change)) (changes_of h)))
          (sym line.reply)
          (subst (λ x. AllDone (answers_from league room x (changes_of h))) (sym line.next) later.accepted);
    }

pub replayed : (league : LeagueData) (room : ℕ) (h : List Entry) → IsLeague league → IsLegal league room h →
    IsReplayed league room h
unfolding IsLegal effective
replayed league room h is legal =
    let all : Played league room [] h = played league room [] h is tt legal in
    record {
      history = all.history;
      accepted = all.accepted;
      games = games_of-under league h;
      pins = pins_of-under league h;
      best = best_of-under league h;
    }
