-- A move that is tried: whether a board makes it, and what it keeps then.
use Rattle.std.proofs.Common.{◌≡◌, ℕ, ◌+◌, ◌^◌, ◌<◌, ◌≤◌, Bool, true, false, not, ◌&&◌, nat_lt, nat_le, if◌then◌else◌, List, [], ◌∷◌, ◌++◌}
use Rattle.std.proofs.Common.{length, Some, None, Result, Ok, Err, is_ok, true≢false, refl, sym, ◌∙◌, ap, subst, arith}
use Rattle.std.proofs.lemmas.Bool.{and_parts, and_right, not-true, ltb-true, lt-ltb, le-ltb, le-leb, lt-leb}
use Rattle.league.specs.League.{LeagueData}
use Rattle.fixtures.specs.Games.{Games}
use Rattle.moves.specs.declared.fault.MoveFault.{MoveFault}
use Rattle.moves.specs.Moves.{moved, fault_of}
use Rattle.costs.specs.Costs.{cost_of, score_by, AreWeights}
use Rattle.fixture_board.specs.declared.change.Change.TheVariants.{Shift}
use Rattle.fixture_board.specs.declared.change.Entry.{Entry}
use Rattle.costs.specs.declared.cost.Cost.{Cost}
use Rattle.costs.specs.declared.weights.Weights.{Weights}
use Rattle.fixture_board.specs.declared.trial.Trial.{Trial}
use Rattle.fixture_board.specs.History.{games_of, pins_of, moves_pin, May, IsLegal, cost_at}
use Rattle.fixture_board.specs.within.Kept.{Kept, FollowsHistory, IsLeft, IsMade}
use Rattle.fixture_board.specs.Record.{Book, book}
use Rattle.fixture_board.specs.Trials.{passes, passes_at, trial_cost, trial_entry, trial_history, TellsOfTrial}
use Rattle.fixture_board.proofs.Keeps.{IsGranted-shift, known_cost}
use Rattle.fixture_board.proofs.Next.{cost_at-callers}
use Rattle.fixture_board.proofs.OneMore.{IsLegal-more}
use Rattle.fixture_board.proofs.Script.{granted-shift}
use Rattle.costs.proofs.ForCallers.{score_fits}
use Rattle.fixture_board.proofs.Scored.{IsScored-league}

-- what is so of a move that passes

record Passes (league : LeagueData) (room : ℕ) (h : List Entry) (trial : Trial) : Type 0 where
  under : length h < room
  may : May league h (Shift trial.mv)

no_fault : (result : Result (Unit {0}) MoveFault) → is_ok result ≡ true → result ≡ Ok tt
no_fault (Ok done) is = refl
no_fault (Err fault) is = absurd (true≢false (sym is))

may_pass : (league : LeagueData) (room : ℕ) (h : List Entry) (trial : Trial) → passes league room h trial ≡ true →
    Passes league room h trial
unfolding passes
may_pass league room h trial is =
    let g : Games = games_of league h in
    let stays : Bool = not (moves_pin (moved g trial.mv) (pins_of league h)) in
    let all = and_parts (nat_lt (length h) room && is_ok (fault_of g trial.mv) && stays) _ is in
    let three = and_parts (nat_lt (length h) room && is_ok (fault_of g trial.mv)) stays all.0 in
    let two = and_parts (nat_lt (length h) room) (is_ok (fault_of g trial.mv)) three.0 in
    record {
      under = ltb-true (length h) room two.0;
      may = (no_fault (fault_of g trial.mv) two.1, not-true (moves_pin (moved g trial.mv) (pins_of league h)) three.1);
    }

-- the history after a trial

IsLegal-if : (league : LeagueData) (room : ℕ) (h : List Entry) (caller : ℕ) (trial : Trial) (made : Bool) → IsLegal league room h →
    passes league room h trial ≡ made → IsLegal league room (if made then h ++ trial_entry caller trial ∷ [] else h)
IsLegal-if league room h caller trial true legal is =
    let passing = may_pass league room h trial is in
    IsLegal-more league room h (trial_entry caller trial) legal passing.under passing.may
IsLegal-if league room h caller trial false legal is = legal

pub IsLegal-trial : (league : LeagueData) (room : ℕ) (h : List Entry) (caller : ℕ) (trial : Trial) → IsLegal league room h →
    IsLegal league room (trial_history league room h caller trial)
unfolding trial_history
IsLegal-trial league room h caller trial legal = IsLegal-if league room h caller trial (passes league room h trial) legal refl

Tells-if : (league : LeagueData) (h : List Entry) (caller : ℕ) (trial : Trial) (made : Bool) →
    TellsOfTrial league h (trial_entry caller trial) (if made then h ++ trial_entry caller trial ∷ [] else h)
    (if made then Some (cost_at league (h ++ trial_entry 0 trial ∷ [])) else None)
Tells-if league h caller trial true = (refl, cost_at-callers league h (trial_entry 0 trial) (trial_entry caller trial) refl)
Tells-if league h caller trial false = refl

pub TellsOfTrial-cost : (league : LeagueData) (room : ℕ) (h : List Entry) (caller : ℕ) (trial : Trial) →
    TellsOfTrial league h (trial_entry caller trial) (trial_history league room h caller trial) (trial_cost league room h trial)
unfolding trial_history trial_cost
TellsOfTrial-cost league room h caller trial = Tells-if league h caller trial (passes league room h trial)

-- whether it is made, by the schedule that is kept

told : {league : LeagueData} {k : Kept} (trial : Trial) → FollowsHistory league k →
    passes league k.room k.history trial ≡ passes_at league k.room (length k.history) k.games (pins_of league k.history) trial
unfolding passes
told {league} {k} trial kept =
    ap (λ g. passes_at league k.room (length k.history) g (pins_of league k.history) trial) (sym kept.games_are)

left_by : {league : LeagueData} {k : Kept} (trial : Trial) → FollowsHistory league k →
    passes_at league k.room (length k.history) k.games (pins_of league k.history) trial ≡ false → IsLeft league k k trial
left_by trial kept fails = record { fails = told trial kept ∙ fails; same = refl }

pub left_full : {league : LeagueData} {k : Kept} (trial : Trial) → FollowsHistory league k → length k.history ≡ k.room →
    IsLeft league k k trial
left_full {league} {k} trial kept full =
    left_by trial kept (rw (le-ltb (length k.history) k.room (omega arith)) refl)

pub left_bad : {league : LeagueData} {k : Kept} (trial : Trial) → FollowsHistory league k → is_ok (fault_of k.games trial.mv) ≡ false →
    IsLeft league k k trial
left_bad {league} {k} trial kept bad =
    left_by trial kept (rw bad (rw (and_right (nat_lt (length k.history) k.room) false refl) refl))

pub left_pinned : {league : LeagueData} {k : Kept} (trial : Trial) → FollowsHistory league k →
    moves_pin (moved k.games trial.mv) (pins_of league k.history) ≡ true → IsLeft league k k trial
left_pinned {league} {k} trial kept moves =
    left_by trial kept
    (rw moves (rw (and_right (nat_lt (length k.history) k.room && is_ok (fault_of k.games trial.mv)) false refl) refl))

pub fails_by_score : {league : LeagueData} {k : Kept} (trial : Trial) (after : Games) → FollowsHistory league k →
    after ≡ moved k.games trial.mv →
    score_by trial.weights (cost_of league k.games) + trial.rise < score_by trial.weights (cost_of league after) →
    passes league k.room k.history trial ≡ false
fails_by_score {league} {k} trial after kept is more =
    let worse : ℕ → Bool = λ score. nat_le score (score_by trial.weights (cost_of league k.games) + trial.rise) in
    let above : worse (score_by trial.weights (cost_of league after)) ≡ false = lt-leb _ _ more in
    told trial kept ∙
    and_right
    (nat_lt (length k.history) k.room && is_ok (fault_of k.games trial.mv) && not (moves_pin (moved k.games trial.mv) (pins_of league k.history)))
    (worse (score_by trial.weights (cost_of league (moved k.games trial.mv))))
    (subst (λ g. worse (score_by trial.weights (cost_of league g)) ≡ false) is above)

pub fits_before : {league : LeagueData} {k : Kept} (weights : Weights) → FollowsHistory league k → AreWeights weights →
    score_by weights k.cost < 2 ^ 64
fits_before {league} {k} weights kept few =
    rw (known_cost kept) (score_fits league k.games weights kept.league_is kept.same_size few)

pub all_pass : {league : LeagueData} {k : Kept} (trial : Trial) (after : Games) → FollowsHistory league k → after ≡ moved k.games trial.mv →
    length k.history < k.room → is_ok (fault_of k.games trial.mv) ≡ true → moves_pin (moved k.games trial.mv) (pins_of league k.history) ≡ false →
    score_by trial.weights (cost_of league after) ≤ score_by trial.weights (cost_of league k.games) + trial.rise →
    passes league k.room k.history trial ≡ true
all_pass {league} {k} trial after kept is under checked stays less =
    let within : nat_le (score_by trial.weights (cost_of league after)) (score_by trial.weights (cost_of league k.games) + trial.rise) ≡ true =
    le-leb _ _ less in
    told trial kept ∙ rw (lt-ltb (length k.history) k.room under, checked, stays) (rw is at within)

pub made : {league : LeagueData} {k : Kept} (trial : Trial) (g : Games) (cost : Cost) → FollowsHistory league k →
    passes league k.room k.history trial ≡ true → g ≡ moved k.games trial.mv → cost ≡ cost_of league g →
    IsMade league k (record k { changes = k.changes ++ Shift trial.mv ∷ []; games = g; cost = cost }) trial
made {league} {k} trial g cost kept is moved_is cost_is =
    let passing = may_pass league k.room k.history trial is in
    let none = granted-shift league k.room k.history trial.mv (IsScored-league league kept.league_is) passing.under passing.may in
    let granted = IsGranted-shift _ g cost kept none moved_is cost_is in
    record {
      passed = is;
      same_room = granted.same_room;
      same_history = granted.same_history;
      under = granted.under;
      kept = granted.kept;
    }

-- what a board answers that shows `v`

pub left_call : (league : LeagueData) (old new : Kept) (v : Book) (caller : ℕ) (trial : Trial) → IsLeft league old new trial →
    book league old.room old.history ≡ v →
    (None ≡ trial_cost v.league v.room v.history trial) ×
    (book league new.room new.history ≡ book v.league v.room (trial_history v.league v.room v.history caller trial))
unfolding trial_cost trial_history
left_call league old new v caller trial is view = rw (← view, is.same) (rw is.fails (refl, refl))

pub made_call : (league : LeagueData) (old new : Kept) (v : Book) (caller : ℕ) (trial : Trial) → IsMade league old new trial →
    book league old.room old.history ≡ v →
    (Some new.cost ≡ trial_cost v.league v.room v.history trial) ×
    (book league new.room (new.history ++ trial_entry caller trial ∷ []) ≡
    book v.league v.room (trial_history v.league v.room v.history caller trial))
unfolding trial_cost trial_history
made_call league old new v caller trial is view =
    let cost : new.cost ≡ cost_at league (old.history ++ trial_entry 0 trial ∷ []) =
    (is.kept 0).cost_is ∙ ap (λ h. cost_at league (h ++ trial_entry 0 trial ∷ [])) is.same_history in
    rw (← view, is.same_history, is.same_room, cost) (rw is.passed (refl, refl))
