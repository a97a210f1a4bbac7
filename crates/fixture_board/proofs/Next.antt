-- The history after a call: it stays legal, the answer tells it, and the best total never rises.
use Rattle.std.proofs.Common.{◌≡◌, ℕ, ◌<◌, ◌≤◌, Bool, true, false, not, nat_lt, if◌then◌else◌, ◌&&◌, ◌==◌, List}
use Rattle.std.proofs.Common.{[], ◌∷◌, ◌++◌, length, Option, Some, None, Result, Ok, Err, is_some, true≢false, refl}
use Rattle.std.proofs.Common.{sym, ◌∙◌, ap, subst, append_assoc, append-nil, length-append, arith}
use Rattle.std.proofs.lemmas.Bool.{not-false, eqb-false, ltb-true, and_parts}
use Rattle.league.specs.League.{LeagueData, IsLeague}
use Rattle.fixtures.specs.Draft.{is_game_in_range}
use Rattle.fixtures.specs.Games.{Games}
use Rattle.moves.specs.declared.fault.MoveFault.{MoveFault}
use Rattle.moves.specs.declared.fault.MoveFault.TheVariants.{BadMove, Meet}
use Rattle.moves.specs.Moves.{moved, fault_of}
use Rattle.costs.specs.Costs.{cost_of, score_of, score_limit, total_of}
use Rattle.fixture_board.specs.declared.change.Entry.{Entry}
use Rattle.fixture_board.specs.declared.ask.Ask.{Ask}
use Rattle.fixture_board.specs.declared.ask.Ask.TheVariants as ask
use Rattle.fixture_board.specs.declared.reply.Why.{Why}
use Rattle.fixture_board.specs.declared.reply.Why.TheVariants as why
use Rattle.fixture_board.specs.History.{effect, effective, games_of, pins_of, has_game, is_there}
use Rattle.fixture_board.specs.History.{moves_pin, May, legal_after, IsLegal, cost_at, better, best_prefix, as_best}
use Rattle.fixture_board.specs.History.{best_of}
use Rattle.fixture_board.specs.Replies.{change_of, is_bad, is_meeting, first_of, version_rows, game_rows, move_rows}
use Rattle.fixture_board.specs.Replies.{score_rows, refusal, entry, next_if, reply_if, next_of, reply_of, greatest}
use Rattle.fixture_board.specs.Laws.{as_number, least_of, TellsOf}
use Rattle.fixture_board.proofs.OneMore.{effective-more, games_of-by, IsLegal-more, best_prefix-more}
use Rattle.costs.proofs.ForCallers.{score_below}
use Rattle.fixture_board.proofs.Scored.{games_of-teams}

-- no row applies
abbrev pub NoneApplies : List (Bool × Why) → Type 0
NoneApplies [] = Unit {0}
NoneApplies (row ∷ rows) = (row.0 ≡ false) × NoneApplies rows

passed-if : (test : Bool) (reason : Why) (rows : List (Bool × Why)) → (if test then Some reason else first_of rows) ≡ None →
    (first_of rows ≡ None → NoneApplies rows) → (test ≡ false) × NoneApplies rows
passed-if true reason rows none later = absurd (true≢false (ap is_some none))
passed-if false reason rows none later = (refl, later none)

pub passed : (rows : List (Bool × Why)) → first_of rows ≡ None → NoneApplies rows
passed [] none = tt
passed (row ∷ rows) none = passed-if row.0 row.1 rows none (passed rows)

pub no_fault : (result : Result (Unit {0}) MoveFault) → is_bad result ≡ false → is_meeting result ≡ false → result ≡ Ok tt
no_fault (Ok done) bad meeting = refl
no_fault (Err BadMove) bad meeting = absurd (true≢false bad)
no_fault (Err Meet) bad meeting = absurd (true≢false meeting)

-- where no reason applies there is room, and the change can be made
pub record CanMake (league : LeagueData) (room : ℕ) (h : List Entry) (ask : Ask) : Type 0 where
  pub under : length h < room
  pub may : May league h (change_of ask)

has_room : (at room : ℕ) → at ≤ room → (at == room) ≡ false → at < room
has_room at room within other = omega (arith, eqb-false at room other)

pub can_make : (league : LeagueData) (room : ℕ) (h : List Entry) (ask : Ask) → length h ≤ room → refusal league room h ask ≡ None →
    CanMake league room h ask
unfolding refusal
can_make league room h (ask.Shift p) within none =
    let g : Games = games_of league h in
    let after : ℕ = score_of league (cost_of league (moved g p.mv)) in
    let rows = passed (move_rows (length h) room p.version g p.mv ++
    (moves_pin (moved g p.mv) (pins_of league h), why.Pinned) ∷ score_rows (length h) p (score_of league (cost_of league g)) after) none in
    record {
      under = has_room (length h) room within rows.1.0;
      may = (no_fault (fault_of g p.mv) rows.1.1.0 rows.1.1.1.0, rows.1.1.1.1.0);
    }
can_make league room h (ask.Pin version game) within none =
    let g : Games = games_of league h in
    let rows = passed (game_rows (length h) room version g game ++ (has_game (pins_of league h) game, why.AlreadyPinned) ∷ []) none in
    record {
      under = has_room (length h) room within rows.1.1.0;
      may = (not-false (is_game_in_range g.teams game) rows.1.1.1.0, not-false (is_there g game) rows.1.1.1.1.0, rows.1.1.1.1.1.0);
    }
can_make league room h (ask.Unpin version game) within none =
    let rows = passed (game_rows (length h) room version (games_of league h) game ++ (not (has_game (pins_of league h) game), why.NotPinned) ∷ [])
    none in
    record {
      under = has_room (length h) room within rows.1.1.0;
      may = not-false (has_game (pins_of league h) game) rows.1.1.1.1.1.0;
    }
can_make league room h (ask.Undo version) within none =
    let rows = passed (version_rows (length h) room version ++ (length (effective h) == 0, why.NothingToUndo) ∷ []) none in
    record {
      under = has_room (length h) room within rows.1.1.0;
      may = omega (arith, eqb-false (length (effective h)) 0 rows.1.1.1.0);
    }

-- a legal history is within its room

legal_after-within : (league : LeagueData) (room : ℕ) (before h : List Entry) → length before ≤ room →
    legal_after league room before h → length (before ++ h) ≤ room
legal_after-within league room before [] within legal = subst (λ b. length b ≤ room) (sym (append-nil before)) within
legal_after-within league room before (e ∷ h) within legal =
    let under : length before < room = legal.0.0 in
    subst (λ b. length b ≤ room) (append_assoc before (e ∷ []) h)
    (legal_after-within league room (before ++ e ∷ []) h (omega (arith, length-append before (e ∷ []))) legal.1)

pub IsLegal-within : (league : LeagueData) (room : ℕ) (h : List Entry) → IsLegal league room h → length h ≤ room
unfolding IsLegal
IsLegal-within league room h legal = legal_after-within league room [] h (omega arith) legal

-- the next history is legal

IsLegal-next_if : (league : LeagueData) (room : ℕ) (h : List Entry) (caller : ℕ) (ask : Ask) (reason : Option Why) →
    IsLegal league room h → refusal league room h ask ≡ reason → IsLegal league room (next_if reason h (entry caller ask))
IsLegal-next_if league room h caller ask None legal is =
    let made = can_make league room h ask (IsLegal-within league room h legal) is in
    IsLegal-more league room h (entry caller ask) legal made.under made.may
IsLegal-next_if league room h caller ask (Some reason) legal is = legal

pub IsLegal-next : (league : LeagueData) (room : ℕ) (h : List Entry) (caller : ℕ) (ask : Ask) → IsLegal league room h →
    IsLegal league room (next_of league room h caller ask)
unfolding next_of
IsLegal-next league room h caller ask legal =
    IsLegal-next_if league room h caller ask (refusal league room h ask) legal refl

-- the answer tells the next history

pub cost_at-callers : (league : LeagueData) (h : List Entry) (a b : Entry) → a.change ≡ b.change →
    cost_at league (h ++ a ∷ []) ≡ cost_at league (h ++ b ∷ [])
unfolding cost_at
cost_at-callers league h a b same =
    let changes : effective (h ++ a ∷ []) ≡ effective (h ++ b ∷ []) =
    effective-more h a ∙ ap (effect (effective h)) same ∙ sym (effective-more h b) in
    ap (cost_of league)
    (games_of-by league (h ++ a ∷ []) (effective (h ++ b ∷ [])) changes ∙
    sym (games_of-by league (h ++ b ∷ []) (effective (h ++ b ∷ [])) refl))

TellsOf-if : (league : LeagueData) (h : List Entry) (caller : ℕ) (ask : Ask) (reason : Option Why) →
    TellsOf league h (entry caller ask) (next_if reason h (entry caller ask)) (reply_if league reason h (entry 0 ask))
TellsOf-if league h caller ask None =
    (refl, omega (arith, length-append h (entry caller ask ∷ [])), cost_at-callers league h (entry 0 ask) (entry caller ask) refl)
TellsOf-if league h caller ask (Some reason) = (refl, refl)

pub TellsOf-reply : (league : LeagueData) (room : ℕ) (h : List Entry) (caller : ℕ) (ask : Ask) →
    TellsOf league h (entry caller ask) (next_of league room h caller ask) (reply_of league room h ask)
unfolding next_of reply_of
TellsOf-reply league room h caller ask = TellsOf-if league h caller ask (refusal league room h ask)

-- the best total never rises

abbrev number_of : LeagueData → Option (List Entry) → ℕ
number_of league found = as_number (as_best league found)

number_of-first : (league : LeagueData) (p : List Entry) (free : Bool) → total_of (cost_at league p) ≤ greatest →
    number_of league (if free then Some p else None) ≤ greatest
number_of-first league p true few = few
number_of-first league p false few = omega arith

number_of-other : (league : LeagueData) (p q : List Entry) (improves : Bool) →
    (improves ≡ true → total_of (cost_at league p) ≤ total_of (cost_at league q)) →
    number_of league (if improves then Some p else Some q) ≤ total_of (cost_at league q)
number_of-other league p q true less = less refl
number_of-other league p q false less = omega arith

number_of-better : (league : LeagueData) (found : Option (List Entry)) (p : List Entry) →
    total_of (cost_at league p) ≤ greatest → number_of league (better league found p) ≤ number_of league found
number_of-better league None p few = number_of-first league p ((cost_at league p).hard == 0) few
number_of-better league (Some q) p few =
    let lower : Bool = nat_lt (total_of (cost_at league p)) (total_of (cost_at league q)) in
    number_of-other league p q ((cost_at league p).hard == 0 && lower)
    (λ improves. omega (
      arith,
      ltb-true (total_of (cost_at league p)) (total_of (cost_at league q)) (and_parts ((cost_at league p).hard == 0) lower improves).1,
    ))

total_small : (league : LeagueData) (h : List Entry) → IsLeague league → total_of (cost_at league h) < score_limit
unfolding cost_at
total_small league h is = omega (arith, score_below league (games_of league h) is (games_of-teams league h))

pub least_of-falls : (league : LeagueData) (h : List Entry) (e : Entry) → IsLeague league →
    least_of league (h ++ e ∷ []) ≤ least_of league h
unfolding least_of best_of
least_of-falls league h e is =
    subst (λ found. number_of league found ≤ number_of league (best_prefix league h)) (sym (best_prefix-more league h e))
    (number_of-better league (best_prefix league h) (h ++ e ∷ []) (omega (arith, total_small league (h ++ e ∷ []) is)))
