-- Why a board refuses, by the tests that it makes in turn.
use Rattle.std.proofs.Common.{◌≡◌, ℕ, ◌+◌, Bool, true, false, not, if◌then◌else◌, ◌==◌, List, [], ◌∷◌, ◌++◌}
use Rattle.std.proofs.Common.{length, Option, Some, None, Result, Ok, Err, IsErrAnd, is_some, true≢false, length-append}
use Rattle.std.proofs.Common.{refl, sym, ◌∙◌, ap, arith}
use Rattle.std.specs.Result.{result_err}
use Rattle.std.proofs.lemmas.Result.{err_from_is_err_and}
use Rattle.std.proofs.lemmas.Bool.{ne_eqb}
use Rattle.league.specs.League.{LeagueData}
use Rattle.fixtures.specs.declared.game.Game.{Game}
use Rattle.fixtures.specs.Draft.{is_game_in_range}
use Rattle.fixtures.specs.Games.{Games, IsDoubleRoundRobin}
use Rattle.moves.specs.Moves.{moved}
use Rattle.costs.specs.Costs.{cost_of, score_of}
use Rattle.costs.specs.declared.cost.Cost.{Cost}
use Rattle.fixture_board.specs.declared.change.Change.{Change}
use Rattle.fixture_board.specs.declared.ask.Ask.{Ask}
use Rattle.fixture_board.specs.declared.ask.Ask.TheVariants as ask
use Rattle.fixture_board.specs.declared.ask.Proposal.{Proposal}
use Rattle.fixture_board.specs.declared.reply.Why.{Why}
use Rattle.fixture_board.specs.declared.reply.Why.TheVariants as why
use Rattle.fixture_board.specs.declared.reply.Reply.TheVariants.{Done, No}
use Rattle.fixture_board.specs.History.{games_of, pins_of, has_game, is_there, moves_pin, AllStand}
use Rattle.fixture_board.specs.History.{cost_at}
use Rattle.fixture_board.specs.within.PinTable.{free, pin_at, ArePinsAt}
use Rattle.fixture_board.specs.within.Kept.{Kept, FollowsHistory, IsRefused, IsGranted, IsStep, entered}
use Rattle.fixture_board.specs.Replies.{first_of, version_rows, game_rows, move_rows, score_rows, refusal, entry}
use Rattle.fixture_board.specs.Replies.{next_of, reply_of}
use Rattle.fixture_board.specs.Record.{Book, book}
use Rattle.fixture_board.proofs.OneMore.{refused, accepted, replies_no, replies_done}
use Rattle.fixture_board.proofs.Next.{cost_at-callers}
use Rattle.fixture_board.proofs.PinTable.{IsPair-in_range, has_game-pinned, is_pinned-told}

-- tables of reasons in two parts

prefix-if : (test : Bool) (reason w : Why) (rest whole : Option Why) → (rest ≡ Some w → whole ≡ Some w) →
    (if test then Some reason else rest) ≡ Some w → (if test then Some reason else whole) ≡ Some w
prefix-if true reason w rest whole later is = is
prefix-if false reason w rest whole later is = later is

first_of-prefix : (prefix back : List (Bool × Why)) (w : Why) → first_of prefix ≡ Some w → first_of (prefix ++ back) ≡ Some w
first_of-prefix [] back w is = absurd (true≢false (sym (ap is_some is)))
first_of-prefix (row ∷ prefix) back w is =
    prefix-if row.0 row.1 w (first_of prefix) (first_of (prefix ++ back)) (first_of-prefix prefix back w) is

rest-if : (test : Bool) (reason : Why) (rest whole back : Option Why) → (rest ≡ None → whole ≡ back) →
    (if test then Some reason else rest) ≡ None → (if test then Some reason else whole) ≡ back
rest-if true reason rest whole back later none = absurd (true≢false (ap is_some none))
rest-if false reason rest whole back later none = later none

first_of-rest : (prefix back : List (Bool × Why)) → first_of prefix ≡ None → first_of (prefix ++ back) ≡ first_of back
first_of-rest [] back none = refl
first_of-rest (row ∷ prefix) back none =
    rest-if row.0 row.1 (first_of prefix) (first_of (prefix ++ back)) (first_of back) (first_of-rest prefix back) none

-- by what a check of the first part answered

stopped : {A : Type 0} {answer : Result A Why} {reason : Why} (prefix back : List (Bool × Why)) →
    result_err answer ≡ first_of prefix → answer ≡ Err reason → first_of (prefix ++ back) ≡ Some reason
stopped {A} {answer} {reason} prefix back told is = first_of-prefix prefix back reason (sym told ∙ ap result_err is)

went_on : {A : Type 0} {answer : Result A Why} {value : A} (prefix back : List (Bool × Why)) →
    result_err answer ≡ first_of prefix → answer ≡ Ok value → first_of (prefix ++ back) ≡ first_of back
went_on {A} {answer} {value} prefix back told is = first_of-rest prefix back (sym told ∙ ap result_err is)

-- a step that stops with the reason that a check answered
pub IsStep-stopped : (league : LeagueData) (k : Kept) (asked : Ask) {reason : Why} (result : Result (Unit {0}) Why) →
    IsErrAnd result (λ e. e ≡ reason) → refusal league k.room k.history asked ≡ Some reason → IsStep league k k asked result
IsStep-stopped league k asked {reason} result is refused =
    let p = err_from_is_err_and result is in
    rw (p.1, p.2) (record { reason = refused; same = refl })

-- whether a game that is in its round is pinned, by the table
pub has_game-told : (g : Games) (game : Game) (table : List ℕ) (has : Bool) → IsDoubleRoundRobin g → is_game_in_range g.teams game ≡ true →
    is_there g game ≡ true → has ≡ not (pin_at table game.home game.away == free) → (held : List Game) → AllStand g held →
    ArePinsAt g held table → has ≡ has_game held game
has_game-told g game table has robin range there is held stand are =
    is ∙
    is_pinned-told g held table game.home game.away robin are (IsPair-in_range g game range) ∙
    sym (has_game-pinned g held game stand there)

-- the reason of a call, by what its checks answered

pin_rows : {league : LeagueData} {k : Kept} (version : ℕ) (game : Game) → FollowsHistory league k →
    refusal league k.room k.history (ask.Pin version game) ≡
    first_of (game_rows (length k.history) k.room version k.games game ++ (has_game (pins_of league k.history) game, why.AlreadyPinned) ∷ [])
unfolding refusal
pin_rows {league} {k} version game kept =
    ap (λ g. first_of (game_rows (length k.history) k.room version g game ++ (has_game (pins_of league k.history) game, why.AlreadyPinned) ∷ []))
    (sym kept.games_are)

pub pin_stopped : {league : LeagueData} {k : Kept} {answer : Result Bool Why} {reason : Why} (version : ℕ) (game : Game) →
    FollowsHistory league k → result_err answer ≡ first_of (game_rows (length k.history) k.room version k.games game) →
    answer ≡ Err reason → refusal league k.room k.history (ask.Pin version game) ≡ Some reason
pin_stopped {league} {k} version game kept told is =
    pin_rows version game kept ∙
    stopped (game_rows (length k.history) k.room version k.games game) ((has_game (pins_of league k.history) game, why.AlreadyPinned) ∷ []) told is

pub pin_told : {league : LeagueData} {k : Kept} {answer : Result Bool Why} {has : Bool} (version : ℕ) (game : Game) →
    FollowsHistory league k → result_err answer ≡ first_of (game_rows (length k.history) k.room version k.games game) →
    answer ≡ Ok has → has ≡ has_game (pins_of league k.history) game →
    refusal league k.room k.history (ask.Pin version game) ≡ (if has then Some why.AlreadyPinned else None)
pin_told {league} {k} version game kept told is has_is =
    pin_rows version game kept ∙
    went_on (game_rows (length k.history) k.room version k.games game)
    ((has_game (pins_of league k.history) game, why.AlreadyPinned) ∷ []) told is ∙
    ap (λ (b : Bool). if b then Some why.AlreadyPinned else None) (sym has_is)

unpin_rows : {league : LeagueData} {k : Kept} (version : ℕ) (game : Game) → FollowsHistory league k →
    refusal league k.room k.history (ask.Unpin version game) ≡
    first_of (game_rows (length k.history) k.room version k.games game ++ (not (has_game (pins_of league k.history) game), why.NotPinned) ∷ [])
unfolding refusal
unpin_rows {league} {k} version game kept =
    ap (λ g. first_of (game_rows (length k.history) k.room version g game ++ (not (has_game (pins_of league k.history) game), why.NotPinned) ∷ []))
    (sym kept.games_are)

pub unpin_stopped : {league : LeagueData} {k : Kept} {answer : Result Bool Why} {reason : Why} (version : ℕ) (game : Game) →
    FollowsHistory league k → result_err answer ≡ first_of (game_rows (length k.history) k.room version k.games game) →
    answer ≡ Err reason → refusal league k.room k.history (ask.Unpin version game) ≡ Some reason
unpin_stopped {league} {k} version game kept told is =
    unpin_rows version game kept ∙
    stopped (game_rows (length k.history) k.room version k.games game)
    ((not (has_game (pins_of league k.history) game), why.NotPinned) ∷ []) told is

pub unpin_told : {league : LeagueData} {k : Kept} {answer : Result Bool Why} {has : Bool} (version : ℕ) (game : Game) →
    FollowsHistory league k → result_err answer ≡ first_of (game_rows (length k.history) k.room version k.games game) →
    answer ≡ Ok has → has ≡ has_game (pins_of league k.history) game →
    refusal league k.room k.history (ask.Unpin version game) ≡ (if not has then Some why.NotPinned else None)
unpin_told {league} {k} version game kept told is has_is =
    unpin_rows version game kept ∙
    went_on (game_rows (length k.history) k.room version k.games game)
    ((not (has_game (pins_of league k.history) game), why.NotPinned) ∷ []) told is ∙
    ap (λ (b : Bool). if not b then Some why.NotPinned else None) (sym has_is)

undo_rows : {league : LeagueData} {k : Kept} (version : ℕ) → FollowsHistory league k →
    refusal league k.room k.history (ask.Undo version) ≡
    first_of (version_rows (length k.history) k.room version ++ (length k.changes == 0, why.NothingToUndo) ∷ [])
unfolding refusal
undo_rows {league} {k} version kept =
    ap (λ (c : List Change). first_of (version_rows (length k.history) k.room version ++ (length c == 0, why.NothingToUndo) ∷ []))
    (sym kept.effective_is)

pub undo_stopped : {league : LeagueData} {k : Kept} {answer : Result (Unit {0}) Why} {reason : Why} (version : ℕ) →
    FollowsHistory league k → result_err answer ≡ first_of (version_rows (length k.history) k.room version) →
    answer ≡ Err reason → refusal league k.room k.history (ask.Undo version) ≡ Some reason
undo_stopped {league} {k} version kept told is =
    undo_rows version kept ∙
    stopped (version_rows (length k.history) k.room version) ((length k.changes == 0, why.NothingToUndo) ∷ []) told is

pub undo_told : {league : LeagueData} {k : Kept} {answer : Result (Unit {0}) Why} {value : Unit {0}} {none : Bool} (version : ℕ) →
    FollowsHistory league k → result_err answer ≡ first_of (version_rows (length k.history) k.room version) →
    answer ≡ Ok value → (length k.changes == 0) ≡ none →
    refusal league k.room k.history (ask.Undo version) ≡ (if none then Some why.NothingToUndo else None)
undo_told {league} {k} version kept told is none_is =
    undo_rows version kept ∙
    went_on (version_rows (length k.history) k.room version) ((length k.changes == 0, why.NothingToUndo) ∷ []) told is ∙
    ap (λ (b : Bool). if b then Some why.NothingToUndo else None) none_is

pub some_last : (changes prefix : List Change) (change : Change) → changes ≡ prefix ++ change ∷ [] → (length changes == 0) ≡ false
some_last changes prefix change are =
    ne_eqb (length changes) 0 (λ same. omega (arith, same, ap length are, length-append prefix (change ∷ [])))

-- the rows of a proposal that come after the check of its move
abbrev rows_after : LeagueData → Kept → Proposal → List (Bool × Why)
rows_after league k p =
    (moves_pin (moved k.games p.mv) (pins_of league k.history), why.Pinned) ∷
    score_rows (length k.history) p (score_of league k.cost) (score_of league (cost_of league (moved k.games p.mv)))

shift_rows : {league : LeagueData} {k : Kept} (p : Proposal) → FollowsHistory league k →
    refusal league k.room k.history (ask.Shift p) ≡
    first_of (move_rows (length k.history) k.room p.version k.games p.mv ++ rows_after league k p)
unfolding refusal cost_at
shift_rows {league} {k} p kept =
    ap (λ g. first_of (move_rows (length k.history) k.room p.version g p.mv ++
    rows_after league (record k { games = g; cost = cost_of league (games_of league k.history) }) p))
    (sym kept.games_are) ∙
    ap (λ c. first_of (move_rows (length k.history) k.room p.version k.games p.mv ++ rows_after league (record k { cost = c }) p))
    (sym kept.cost_is)

pub shift_stopped : {league : LeagueData} {k : Kept} {answer : Result (Unit {0}) Why} {reason : Why} (p : Proposal) →
    FollowsHistory league k → result_err answer ≡ first_of (move_rows (length k.history) k.room p.version k.games p.mv) →
    answer ≡ Err reason → refusal league k.room k.history (ask.Shift p) ≡ Some reason
shift_stopped {league} {k} p kept told is =
    shift_rows p kept ∙ stopped (move_rows (length k.history) k.room p.version k.games p.mv) (rows_after league k p) told is

pub shift_told : {league : LeagueData} {k : Kept} {answer : Result (Unit {0}) Why} {value : Unit {0}} {moves : Bool} (p : Proposal) →
    FollowsHistory league k → result_err answer ≡ first_of (move_rows (length k.history) k.room p.version k.games p.mv) →
    answer ≡ Ok value → moves ≡ moves_pin (moved k.games p.mv) (pins_of league k.history) →
    refusal league k.room k.history (ask.Shift p) ≡
    (if moves then Some why.Pinned
    else first_of (score_rows (length k.history) p (score_of league k.cost) (score_of league (cost_of league (moved k.games p.mv)))))
shift_told {league} {k} p kept told is moves_is =
    shift_rows p kept ∙
    went_on (move_rows (length k.history) k.room p.version k.games p.mv) (rows_after league k p) told is ∙
    ap (λ (b : Bool). if b then Some why.Pinned
    else first_of (score_rows (length k.history) p (score_of league k.cost) (score_of league (cost_of league (moved k.games p.mv)))))
    (sym moves_is)

-- by the scores, where the move is tried on `g1` and leads to `g2` of this cost
pub shift_judged : {league : LeagueData} {k : Kept} {tested : Result (Unit {0}) Why} {value : Unit {0}} (p : Proposal)
    (g1 g2 : Games) (cost : Cost) (before after : ℕ) (moves : Bool) (judged : Result (Unit {0}) Why) →
    FollowsHistory league k → result_err tested ≡ first_of (move_rows (length k.history) k.room p.version k.games p.mv) →
    tested ≡ Ok value → moves ≡ moves_pin (moved k.games p.mv) (pins_of league k.history) → moves ≡ false →
    g1 ≡ k.games → g2 ≡ moved g1 p.mv → cost ≡ cost_of league g2 → before ≡ score_of league k.cost → after ≡ score_of league cost →
    result_err judged ≡ first_of (score_rows (length k.history) p before after) →
    refusal league k.room k.history (ask.Shift p) ≡ result_err judged
shift_judged {league} {k} p g1 g2 cost before after moves judged kept told is moves_is stay tried_is moved_is cost_is before_is after_is
    judged_is =
    let games : g2 ≡ moved k.games p.mv = moved_is ∙ ap (λ x. moved x p.mv) tried_is in
    let last : after ≡ score_of league (cost_of league (moved k.games p.mv)) =
    after_is ∙ ap (score_of league) cost_is ∙ ap (λ x. score_of league (cost_of league x)) games in
    rw stay at (shift_told p kept told is moves_is) ∙ sym (rw (before_is, last) at judged_is)

-- the answers of a call, where the board shows `v`

pub refused_call : (league : LeagueData) (old new : Kept) (v : Book) (caller : ℕ) (asked : Ask) (reason : Why) →
    IsRefused league old new asked reason → book league old.room old.history ≡ v →
    (No (length old.history) reason ≡ reply_of v.league v.room v.history asked) ×
    (book league new.room new.history ≡ book v.league v.room (next_of v.league v.room v.history caller asked))
refused_call league old new v caller asked reason is view =
    rw (← view, is.same) (
      sym (replies_no league old.room old.history asked reason is.reason),
      ap (book league old.room) (sym (refused league old.room old.history caller asked reason is.reason)),
    )

pub granted_call : (league : LeagueData) (old new : Kept) (v : Book) (caller : ℕ) (asked : Ask) →
    IsGranted league old new asked → book league old.room old.history ≡ v →
    (Done (length (new.history ++ entry caller asked ∷ [])) new.cost ≡ reply_of v.league v.room v.history asked) ×
    (book league new.room (new.history ++ entry caller asked ∷ []) ≡ book v.league v.room (next_of v.league v.room v.history caller asked))
granted_call league old new v caller asked is view =
    let kept : FollowsHistory league (entered new (entry caller asked)) = is.kept caller in
    let cost : new.cost ≡ cost_at league (old.history ++ entry 0 asked ∷ []) =
    kept.cost_is ∙
    ap (λ h. cost_at league (h ++ entry caller asked ∷ [])) is.same_history ∙
    cost_at-callers league old.history (entry caller asked) (entry 0 asked) refl in
    let version : length (old.history ++ entry caller asked ∷ []) ≡ length old.history + 1 =
    omega (arith, length-append old.history (entry caller asked ∷ [])) in
    rw (← view, is.same_history, is.same_room, cost) (
      rw version (sym (replies_done league old.room old.history asked is.no_reason)),
      ap (book league old.room) (sym (accepted league old.room old.history caller asked is.no_reason)),
    )
