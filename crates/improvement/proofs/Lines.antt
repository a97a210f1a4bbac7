-- Legs in line, and what they may begin with.
use Rattle.std.proofs.Common.{◌≡◌, ℕ, List, [], ◌∷◌, ◌++◌, map, take, drop, slice_get, inr, sum_by, All, Option, Some, None, Result, Ok, Err, OnOk, IfSome}
use Rattle.std.proofs.Common.{◌+◌, refl, sym, ◌∙◌, ap, subst, append_assoc, arith}
use Rattle.std.proofs.lemmas.List.{map-append}
use Rattle.std.proofs.lemmas.List.Elements.{All-append, All-cons, All-drop, All-head, All-push, All-rest, All-same, All-take}
use Rattle.std.proofs.lemmas.List.Sums.{sum_by-append, sum_by-cons}
use Rattle.std.specs.List.{position_or_len}
use Rattle.std.specs.Option.{option_to_list, unwrap_or}
use Rattle.league.specs.League.{LeagueData}
use Rattle.fixture_board.specs.Record.{Book}
use Rattle.annealing.specs.declared.chain.Annealed.{Annealed}
use Rattle.annealing.specs.declared.chain.Chain.{Chain}
use Rattle.annealing.specs.Legs.{IsAnnealed}
use Rattle.policy.specs.declared.legs.WeightCourse.{WeightCourse}
use Rattle.improvement.specs.declared.field.Entrant.{Entrant}
use Rattle.improvement.specs.declared.legs.LegState.{LegState}
use Rattle.improvement.specs.declared.legs.LegState.TheVariants.{InThread, Over}
use Rattle.improvement.specs.declared.legs.RunningLeg.{RunningLeg}
use Rattle.improvement.specs.declared.legs.Assignment.{Assignment}
use Rattle.improvement.specs.declared.legs.WaitingLeg.{WaitingLeg}
use Rattle.improvement.specs.declared.line.LegQueue.{LegQueue}
use Rattle.improvement.specs.declared.stage.LegBeginning.{LegBeginning}
use Rattle.improvement.specs.within.Fields.{StageData, after_bout, at_best, begun_one, beginning_of, chain_for, entering, is_before}
use Rattle.improvement.specs.within.Fields.{passing, passing_by, ranked}
use Rattle.improvement.specs.Legs.{CanBegin, LegRun}
use Rattle.improvement.specs.within.Lines.{CanEnd, IsAtBeginning, IsEntrant, IsLine, IsRunning, IsStage, IsState, IsWaiting, MayBegin, anew}
use Rattle.improvement.specs.within.Lines.{left_in, steps_left, assignment_of_running, assignment_of_waiting, assigned_steps, assignments_of, waiting_for}
use Rattle.policy.specs.declared.legs.Leg.{Leg}
use Rattle.policy.specs.declared.waves.LegSource.{LegSource}
use Rattle.policy.specs.declared.waves.LegSource.TheVariants.{Start, Own, Copies}
use Rattle.policy.specs.Legs.{IsLeg}

can_begin_anew : (league : LeagueData) (legs : List LegRun) (chain : ℕ) → CanBegin league legs chain []
can_begin_anew league [] chain = refl
can_begin_anew league (run ∷ legs) chain = inr (can_begin_anew league legs chain)

pub at_beginning : (start : Book) (legs : List LegRun) (chain : ℕ) (board : Option Book) → MayBegin start legs chain board →
    IsAtBeginning start legs chain (unwrap_or board (anew start))
at_beginning start legs chain None may = record {
  alike = record { league_is = refl; room_is = refl };
  begins = can_begin_anew start.league legs chain;
}
at_beginning start legs chain (Some board) may = may

pub state_weaker : (P Q : Annealed → Type 0) → ((now : Annealed) → P now → Q now) → (state : LegState) → IsState P state → IsState Q state
state_weaker P Q weaker (InThread handle) is = λ now annealed. weaker now (is now annealed)
state_weaker P Q weaker (Over (Ok now)) is = weaker now is
state_weaker P Q weaker (Over (Err fault)) is = tt

pub state_of : (start : Book) (legs : List LegRun) (assignment : Assignment) (weights : WeightCourse) (old : Chain) (board : Option Book) (state : LegState) →
    MayBegin start legs assignment.chain board → old.board ≡ unwrap_or board (anew start) →
    IsState (IsAnnealed weights assignment.leg old) state → IsState (CanEnd start legs assignment) state
state_of start legs assignment weights old board state may same is =
    state_weaker (IsAnnealed weights assignment.leg old) (CanEnd start legs assignment)
    (λ now annealed. record {
      weights = weights;
      old = old;
      begins = subst (IsAtBeginning start legs assignment.chain) (sym same) (at_beginning start legs assignment.chain board may);
      annealed = annealed;
    }) state is

-- ---- the chains of a wave

all_ranked : (P : Entrant → Type 0) (e : Entrant) (entrants : List Entrant) → P e → All P entrants → All P (ranked e entrants)
all_ranked P e entrants holds all =
    let rank = position_or_len (is_before e) entrants in
    All-append P (take rank entrants) (e ∷ drop rank entrants) (All-take P rank entrants all)
    (All-cons P e (drop rank entrants) holds (All-drop P rank entrants all))

pub stage_entering : {start : Book} {legs : List LegRun} (s : StageData) (e : Entrant) → IsEntrant start legs e → IsStage start legs s →
    IsStage start legs (entering e s)
stage_entering {start} {legs} s e is stage = record {
  before = stage.before;
  field = All-take (IsEntrant start legs) s.wave.keep (ranked e s.field) (all_ranked (IsEntrant start legs) e s.field is stage.field);
}

first_of : (P : Entrant → Type 0) (entrants : List Entrant) → All P entrants → IfSome (slice_get entrants 0) P
first_of P [] all = tt
first_of P (e ∷ entrants) all = All-head P e entrants all

chain_is : {start : Book} {legs : List LegRun} (source : LegSource) (before : List Entrant) → All (IsEntrant start legs) before →
    IfSome (chain_for source before) (IsEntrant start legs)
chain_is Start before all = tt
chain_is {start} {legs} Own before all = first_of (IsEntrant start legs) before all
chain_is {start} {legs} Copies before all = first_of (IsEntrant start legs) before all

rest_is : {start : Book} {legs : List LegRun} (source : LegSource) (s : StageData) → s.wave.source ≡ source → IsStage start legs s →
    IsStage start legs (begun_one s)
rest_is Start s same stage = rw same (record { before = stage.before; field = stage.field })
rest_is {start} {legs} Own s same stage =
    rw same (record { before = All-drop (IsEntrant start legs) 1 s.before stage.before; field = stage.field })
rest_is Copies s same stage = rw same (record { before = stage.before; field = stage.field })

pub stage_begun : {start : Book} {legs : List LegRun} (s : StageData) (chain : Option Entrant) → IsStage start legs s →
    IsStage start legs (after_bout s chain)
stage_begun s None stage = let next = rest_is s.wave.source s refl stage in record { before = next.before; field = next.field }
stage_begun s (Some e) stage = rest_is s.wave.source s refl stage

passing_is : {start : Book} {legs : List LegRun} (source : LegSource) (chain : Option Entrant) (s : StageData) →
    IfSome chain (IsEntrant start legs) → IsStage start legs s → IsStage start legs (passing_by source chain s)
passing_is Start chain s is stage = stage
passing_is Own None s is stage = stage
passing_is Own (Some e) s is stage = stage_entering s e is stage
passing_is Copies chain s is stage = stage

pub stage_passing : {start : Book} {legs : List LegRun} (s : StageData) → IsStage start legs s →
    IsStage start legs (passing s (chain_for s.wave.source s.before))
stage_passing s stage =
    passing_is s.wave.source (chain_for s.wave.source s.before) (begun_one s) (chain_is s.wave.source s.before stage.before)
    (rest_is s.wave.source s refl stage)

-- ---- the line

pub best_begins : {start : Book} {legs : List LegRun} (e : Entrant) → IsEntrant start legs e → MayBegin start legs e.number (at_best e).board
best_begins {start} {legs} e is = record {
  alike = record { league_is = is.alike.league_is; room_is = is.alike.room_is };
  begins = rw is.alike.league_is is.begins;
}

bout_begins : (start : Book) (legs : List LegRun) (s : StageData) (weight : ℕ) (chain : Option Entrant) → IfSome chain (IsEntrant start legs) →
    MayBegin start legs (beginning_of s weight chain).chain (beginning_of s weight chain).board
bout_begins start legs s weight None is = tt
bout_begins start legs s weight (Some e) is = best_begins e is

pub line_with : {start : Book} {legs : List LegRun} (line new : LegQueue) (stream bout : ℕ) (leg : Leg) (b : LegBeginning) → IsLine start legs line →
    IsStage start legs new.stage → IsLeg leg → MayBegin start legs b.chain b.board →
    new.waiting.items ≡ line.waiting.items ++ waiting_for stream bout leg b ∷ [] → new.running ≡ line.running → IsLine start legs new
line_with {start} {legs} line new stream bout leg b is stage leg_is begins waiting running = record {
  stage = stage;
  running = rw running is.running;
  waiting = All-same (IsWaiting start legs) new.waiting.items (line.waiting.items ++ waiting_for stream bout leg b ∷ []) waiting
      (All-push (IsWaiting start legs) line.waiting.items (waiting_for stream bout leg b) is.waiting
      (record { leg = leg_is; begins = begins }));
}

pub bout_lined : {start : Book} {legs : List LegRun} (line new : LegQueue) (stream bout weight : ℕ) (leg : Leg) (b : LegBeginning) → IsLine start legs line →
    IsLeg leg → b ≡ beginning_of line.stage weight (chain_for line.stage.wave.source line.stage.before) →
    new.stage ≡ after_bout line.stage (chain_for line.stage.wave.source line.stage.before) →
    new.waiting.items ≡ line.waiting.items ++ waiting_for stream bout leg b ∷ [] → new.running ≡ line.running → IsLine start legs new
bout_lined {start} {legs} line new stream bout weight leg b is leg_is same stage waiting running =
    let chain = chain_for line.stage.wave.source line.stage.before in
    line_with line new stream bout leg b is
    (subst (IsStage start legs) (sym stage) (stage_begun line.stage chain is.stage)) leg_is
    (subst (λ (x : LegBeginning). MayBegin start legs x.chain x.board) (sym same)
    (bout_begins start legs line.stage weight chain (chain_is line.stage.wave.source line.stage.before is.stage.before)))
    waiting running

pub assignments_more : (line new : LegQueue) (w : WaitingLeg) → new.waiting.items ≡ line.waiting.items ++ w ∷ [] → new.running ≡ line.running →
    assignments_of new ≡ assignments_of line ++ w.assignment ∷ []
assignments_more line new w waiting running =
    rw (running, waiting, map-append assignment_of_waiting line.waiting.items (w ∷ []))
    (sym (append_assoc (map assignment_of_running line.running.items) (map assignment_of_waiting line.waiting.items) (w.assignment ∷ [])))

-- a leg that waits has its steps left
pub left_more : (line new : LegQueue) (w : WaitingLeg) → new.waiting.items ≡ line.waiting.items ++ w ∷ [] → new.running ≡ line.running →
    left_in new ≡ steps_left new.series + (sum_by assigned_steps (assignments_of line) + assigned_steps w.assignment)
left_more line new w waiting running =
    let added : sum_by assigned_steps (assignments_of new) ≡ sum_by assigned_steps (assignments_of line) + sum_by assigned_steps (w.assignment ∷ []) =
    ap (sum_by assigned_steps) (assignments_more line new w waiting running) ∙ sum_by-append assigned_steps (assignments_of line) (w.assignment ∷ []) in
    omega (arith, added, sum_by-cons assigned_steps w.assignment [])

-- the first one is taken out
pub all_front : {X : Type 0} (P : X → Type 0) (old new : List X) (first : Option X) → old ≡ option_to_list first ++ new → All P old →
    All P new × IfSome first P
all_front P old new None same all = (subst (All P) same all, tt)
all_front P old new (Some x) same all = (All-rest P x new old same all, All-head P x new (subst (All P) same all))

-- the assignments of the line once so many legs are left that run
abbrev assignments_with : LegQueue → List RunningLeg → List Assignment
assignments_with line running = map assignment_of_running running ++ map assignment_of_waiting line.waiting.items

front_is : (line : LegQueue) (rest : List RunningLeg) (first : Option RunningLeg) → line.running.items ≡ option_to_list first ++ rest →
    IfSome first (λ leg. assignments_of line ≡ leg.assignment ∷ assignments_with line rest)
front_is line rest None same = tt
front_is line rest (Some leg) same = rw same refl

pub front_more : (old full line : LegQueue) (rest : List RunningLeg) (first : Option RunningLeg) →
    (more : List Assignment) × (assignments_of full ≡ assignments_of old ++ more) → assignments_of line ≡ assignments_of full →
    line.running.items ≡ option_to_list first ++ rest →
    IfSome first (λ leg. (more : List Assignment) × (assignments_of old ++ more ≡ leg.assignment ∷ assignments_with line rest))
front_more old full line rest None assignments same taken = tt
front_more old full line rest (Some leg) assignments same taken =
    (assignments.0, sym assignments.1 ∙ sym same ∙ front_is line rest (Some leg) taken)

pub front_left : (old full line : LegQueue) (rest : List RunningLeg) (first : Option RunningLeg) → left_in full ≡ left_in old →
    assignments_of line ≡ assignments_of full → line.series ≡ full.series → line.running.items ≡ option_to_list first ++ rest →
    IfSome first (λ leg. assigned_steps leg.assignment + (steps_left line.series + sum_by assigned_steps (assignments_with line rest)) ≡ left_in old)
front_left old full line rest None left same series taken = tt
front_left old full line rest (Some leg) left same series taken =
    let assignments : sum_by assigned_steps (assignments_of full) ≡ assigned_steps leg.assignment + sum_by assigned_steps (assignments_with line rest) =
    ap (sum_by assigned_steps) (sym same ∙ front_is line rest (Some leg) taken) ∙ sum_by-cons assigned_steps leg.assignment (assignments_with line rest) in
    omega (arith, left, assignments, ap steps_left series)

-- a leg that waited runs
pub line_run : {start : Book} {legs : List LegRun} (line new : LegQueue) (w : WaitingLeg) (r : RunningLeg) → IsLine start legs line →
    line.waiting.items ≡ w ∷ new.waiting.items → new.running.items ≡ line.running.items ++ r ∷ [] → new.stage ≡ line.stage →
    (IsWaiting start legs w → IsRunning start legs r) → IsLine start legs new
line_run {start} {legs} line new w r is waiting running stage runs = record {
  stage = subst (IsStage start legs) (sym stage) is.stage;
  running = All-same (IsRunning start legs) new.running.items (line.running.items ++ r ∷ []) running
      (All-push (IsRunning start legs) line.running.items r is.running
      (runs (All-head (IsWaiting start legs) w new.waiting.items (subst (All (IsWaiting start legs)) waiting is.waiting))));
  waiting = All-rest (IsWaiting start legs) w new.waiting.items line.waiting.items waiting is.waiting;
}

pub turns_run : (line : LegQueue) (running : List RunningLeg) (waiting : List WaitingLeg) (w : WaitingLeg) (r : RunningLeg) →
    line.waiting.items ≡ w ∷ waiting → running ≡ line.running.items ++ r ∷ [] → r.assignment ≡ w.assignment →
    map assignment_of_running running ++ map assignment_of_waiting waiting ≡ assignments_of line
turns_run line running waiting w r left more assignment =
    rw (more, left, map-append assignment_of_running line.running.items (r ∷ []), assignment)
    (append_assoc (map assignment_of_running line.running.items) (w.assignment ∷ []) (map assignment_of_waiting waiting))

pub on_ok : {T E P Q : Type 0} (r : Result T E) → (P → Q) → OnOk r P → OnOk r Q
on_ok (Ok value) f holds = f holds
on_ok (Err fault) f holds = tt
