-- What the run's seat knows of the entries of the seats that it took in.
use Rattle.std.proofs.Common.{◌≡◌, ℕ, Bool, true, List, [], ◌∷◌, ◌++◌, Vec, map, refl, sym, ap, ◌∙◌, subst, arith, append_assoc}
use Rattle.std.specs.Prelude.{Result, Ok, Err, IfOk}
use Rattle.std.specs.List.{All}
use Rattle.std.specs.List.Sorted.{IsStrictlyIncreasing}
use Rattle.std.specs.declared.alloc.Global.{Global}
use Rattle.std.specs.declared.thread.PromisedHandle.{PromisedHandle}
use mathlib.Core.Logic.{inl, inr}
use Rattle.std.proofs.lemmas.List.{map-append}
use Rattle.std.proofs.lemmas.List.Elements.{All-head, All-push, All-rest, All-same}
use Rattle.league.specs.League.{LeagueData, teams}
use Rattle.fixture_board.specs.declared.change.Entry.{Entry}
use Rattle.fixture_board.specs.declared.reply.Reply.{Reply}
use Rattle.fixture_board.specs.Record.{Book}
use Rattle.shared_board.specs.declared.shared.Closed.{Closed}
use Rattle.shared_board.specs.Held.{under}
use Rattle.shared_board.specs.Seats.{BoardId, SeatValue, Absorbed, ClosedBy}
use Rattle.shared_board.proofs.ForCallers.{under_append, under_both}
use Rattle.search.specs.declared.runs.threads.Ended.{Ended}
use Rattle.search.specs.declared.runs.threads.WorkerTask.{WorkerTask}
use Rattle.search.specs.declared.runs.threads.WorkerInput.{WorkerInput}
use Rattle.draws.specs.declared.gates.Progress.{Progress}
use Rattle.search.specs.declared.runs.Outcome.{Outcome}
use Rattle.search.specs.declared.runs.RunRefused.{RunRefused}
use Rattle.choices.specs.declared.search_plan.SearchPlan.{SearchPlan}
use Rattle.search.specs.declared.workers.Report.{Report}
use Rattle.search.specs.within.RunParts.{AreStarted, IsBack, IsHandle, IsOfInput, IsSized, handle_input, handle_number, input_copy, input_number}
use Rattle.search.specs.within.RunParts.{input_worker}
use Rattle.search.specs.Outcomes.{AreCredited, Credits, accepted_of, made_by}
use Rattle.search.specs.Heard.{AreOf, IsOfWorker}
use Rattle.search.specs.Reports.{IsReport}
use Rattle.search.proofs.SeatLaws.{under_known}

-- What was taken in of the threads: their numbers, and their reports, each with as many accepted proposals as there are
-- entries under its number
pub record IsGathered {G : Type 0} (heard : ℕ → ℕ → Reply → Type 0) (reported : ℕ → Progress → Type 0) (league : LeagueData)
    (plan : SearchPlan) (table : BoardId) (was seat : SeatValue) (done : List (PromisedHandle Ended (WorkerTask G)))
    (reports : List Report) : Type 0 where
  pub table_is : seat.table ≡ table
  pub setting : seat.setting ≡ was.setting
  pub held : seat.held ≡ was.held ++ map handle_number done
  pub each : All (IsReport plan.steps) reports
  pub heard_are : AreOf (IsOfInput heard reported league plan) (map handle_input done) reports
  pub credits : AreCredited (map handle_number done) reports seat.seen

-- entries under none of the numbers change none of their counts
unmoved : (ns : List ℕ) (seen after : List Entry) → under ns after ≡ 0 →
    map (λ n. made_by n (seen ++ after)) ns ≡ map (λ n. made_by n seen) ns
unmoved [] seen after none = refl
unmoved (n ∷ ns) seen after none =
    let both = under_both (n ∷ []) ns after in
    let more = under_append (n ∷ []) seen after in
    let first : made_by n (seen ++ after) ≡ made_by n seen = omega arith in
    let rest = unmoved ns seen after (omega arith) in
    cc

-- after a seat with one number was taken in, the earlier numbers' counts are what they were, and this one's is its own
counts_joined : (a other b : SeatValue) (own ns : List ℕ) (n : ℕ) → Absorbed a other b → a.held ≡ own ++ ns → other.held ≡ n ∷ [] →
    (map (λ m. made_by m b.seen) ns ≡ map (λ m. made_by m a.seen) ns) × (made_by n b.seen ≡ made_by n other.seen)
counts_joined a other b own ns n joined mine theirs =
    elim joined.kept [
      | inl k ↦
          let own_is : made_by n a.seen ≡ under other.held a.seen = ap (λ (hs : List ℕ). under hs a.seen) (sym theirs) in
          let other_is : under other.held other.seen ≡ made_by n other.seen = ap (λ (hs : List ℕ). under hs other.seen) theirs in
          let seen : made_by n b.seen ≡ made_by n a.seen = ap (made_by n) k.0 in
          (ap (λ (s : List Entry). map (λ m. made_by m s) ns) k.0, seen ∙ own_is ∙ under_known other.held other.seen a.seen k.1 ∙ other_is)
      | inr k ↦
          let after = k.1.after in
          let parts = under_both own ns after in
          let held : under a.held after ≡ under (own ++ ns) after = ap (λ (hs : List ℕ). under hs after) mine in
          let gone = k.1.none_after in
          let none : under ns after ≡ 0 = omega arith in
          let seen : b.seen ≡ a.seen ++ after = k.0 ∙ k.1.begins in
          (ap (λ (s : List Entry). map (λ m. made_by m s) ns) seen ∙ unmoved ns a.seen after none, ap (made_by n) k.0)
    ]

-- one more report is that of one more
are_of_push : {A : Type 0} (is : A → Report → Type 0) (xs : List A) (x : A) (rs : List Report) (r : Report) → AreOf is xs rs → is x r →
    AreOf is (xs ++ x ∷ []) (rs ++ r ∷ [])
are_of_push is [] x [] r are one = (one, tt)
are_of_push is [] x (q ∷ rs) r are one = absurd are
are_of_push is (y ∷ xs) x [] r are one = absurd are
are_of_push is (y ∷ xs) x (q ∷ rs) r are one = (are.0, are_of_push is xs x rs r are.1 one)

-- the reports of inputs are those of their workers, if all copies are of one size
pub of_workers : (heard : ℕ → ℕ → Reply → Type 0) (reported : ℕ → Progress → Type 0) (league : LeagueData) (plan : SearchPlan) (size : ℕ)
    (inputs : List WorkerInput) (reports : List Report) → AreOf (IsOfInput heard reported league plan) inputs reports →
    All (IsSized size) (map input_copy inputs) →
    AreOf (IsOfWorker heard reported (size ≡ teams league) plan.steps) (map input_worker inputs) reports
of_workers heard reported league plan size [] [] are sized = tt
of_workers heard reported league plan size [] (r ∷ rs) are sized = are
of_workers heard reported league plan size (j ∷ js) [] are sized = are
of_workers heard reported league plan size (j ∷ js) (r ∷ rs) are sized =
    let one : j.copy.teams ≡ size = All-head (IsSized size) j.copy (map input_copy js) sized in
    let rest = All-rest (IsSized size) j.copy (map input_copy js) (map input_copy (j ∷ js)) refl sized in (
      record { heard_is = are.0.heard_is; reported_is = λ same. are.0.reported_is (one ∙ same) },
      of_workers heard reported league plan size js rs are.1 rest,
    )

-- one more thread's seat is taken in
pub gathered_more : {G : Type 0} (hears : G → ℕ → ℕ → Reply → Type 0) (was_reported : G → ℕ → Progress → Type 0) (gate : G)
    (league : LeagueData) (plan : SearchPlan) (table : BoardId) (was a other b : SeatValue)
    (done : List (PromisedHandle Ended (WorkerTask G))) (h : PromisedHandle Ended (WorkerTask G)) (reports reports' : List Report)
    (report : Report) →
    IsGathered (hears gate) (was_reported gate) league plan table was a done reports → IsHandle gate league plan table h →
    IsBack (hears h.promise.gate.value) (was_reported h.promise.gate.value) h.promise.league.value h.promise.plan (handle_input h) report other →
    Absorbed a other b → reports' ≡ reports ++ report ∷ [] →
    IsGathered (hears gate) (was_reported gate) league plan table was b (done ++ h ∷ []) reports'
gathered_more {G} hears was_reported gate league plan table was a other b done h reports reports' report so given back joined items =
    let numbers = map handle_number done in
    let n = handle_number h in
    let fresh = given.fresh in
    let theirs : other.held ≡ n ∷ [] = sym back.held ∙ fresh.held in
    let counts = counts_joined a other b was.held numbers n joined so.held theirs in
    let longer : map handle_number (done ++ h ∷ []) ≡ numbers ++ n ∷ [] = map-append handle_number done (h ∷ []) in
    let of : ℕ → ℕ = λ m. made_by m b.seen in
    let old : map of numbers ≡ map accepted_of reports = counts.0 ∙ so.credits in
    let other_is : made_by n other.seen ≡ under other.held other.seen = ap (λ (hs : List ℕ). under hs other.seen) (sym theirs) in
    let own = (handle_input h).seat in
    let nothing : under own.held own.seen ≡ 0 = ap (under own.held) fresh.seen in
    let reported = back.counted in
    let same = counts.1 in
    let new : of n ≡ report.accepted = omega arith in
    let front : map of (numbers ++ n ∷ []) ≡ map of numbers ++ (of n ∷ []) = map-append of numbers (n ∷ []) in
    let back_is : map accepted_of reports' ≡ map accepted_of reports ++ (report.accepted ∷ []) = ap (map accepted_of) items ∙
    map-append accepted_of reports (report ∷ []) in
    let ends : map of numbers ++ (of n ∷ []) ≡ map accepted_of reports ++ (report.accepted ∷ []) = cc in
    let inputs = map handle_input done in
    let input = handle_input h in
    let of_input = IsOfInput (hears gate) (was_reported gate) league plan in
    let Steps : SearchPlan → Type 0 = λ p. IsReport p.steps report in
    let ByPlan : SearchPlan → Type 0 = λ p. IsOfInput (hears gate) (was_reported gate) league p input report in
    let With : LeagueData → Type 0 = λ l. IsOfInput (hears gate) (was_reported gate) l h.promise.plan input report in
    let Through : G → Type 0 = λ g. IsOfInput (hears g) (was_reported g) h.promise.league.value h.promise.plan input report in
    let of_this : of_input input report =
    subst ByPlan given.plan_is (subst With given.league_is (subst Through given.gate_is back.heard_is)) in
    let Of : List Report → Type 0 = λ rs. AreOf of_input (map handle_input (done ++ h ∷ [])) rs in
    let OfInputs : List WorkerInput → Type 0 = λ js. AreOf of_input js (reports ++ report ∷ []) in
    let inputs_are : map handle_input (done ++ h ∷ []) ≡ inputs ++ input ∷ [] = map-append handle_input done (h ∷ []) in
    record {
      table_is = ap (λ (s : SeatValue). s.table) joined.now ∙ so.table_is;
      setting = ap (λ (s : SeatValue). s.setting) joined.now ∙ so.setting;
      held = ap (λ (s : SeatValue). s.held) joined.now ∙ ap (λ (hs : List ℕ). hs ++ other.held) so.held ∙
          append_assoc was.held numbers other.held ∙ ap (λ (hs : List ℕ). was.held ++ (numbers ++ hs)) theirs ∙
          ap (λ (hs : List ℕ). was.held ++ hs) (sym longer);
      each = All-same (IsReport plan.steps) reports' (reports ++ report ∷ []) items
          (All-push (IsReport plan.steps) reports report so.each (subst Steps given.plan_is back.report_is));
      heard_are = subst Of (sym items) (subst OfInputs (sym inputs_are) (are_of_push of_input inputs input reports report so.heard_are of_this));
      credits = ap (map of) longer ∙ front ∙ ends ∙ sym back_is;
    }

-- the numbers of threads are those of their inputs
pub numbers_of : {G : Type 0} (done : List (PromisedHandle Ended (WorkerTask G))) → map input_number (map handle_input done) ≡ map handle_number done
numbers_of [] = refl
numbers_of (h ∷ hs) = ap (λ (ns : List ℕ). handle_number h ∷ ns) (numbers_of hs)

-- if all threads were started and the board is whole, the reports are credited with its entries
pub credits_of : {G : Type 0} (gate : G) (league : LeagueData) (plan : SearchPlan) (table : BoardId) (all : Bool) (inputs : Vec WorkerInput Global)
    (handles : Vec (PromisedHandle Ended (WorkerTask G)) Global) (reports : List Report) (seat : SeatValue) (closed : Closed) →
    AreStarted gate league plan table inputs all handles → all ≡ true → IsStrictlyIncreasing (map input_number inputs.items) →
    AreCredited (map handle_number handles.items) reports seat.seen → ClosedBy seat closed →
    closed.whole ≡ true → Credits reports closed.board.history
credits_of gate league plan table all inputs handles reports seat closed started is_all rising credits is_closed whole =
    let numbers : map handle_number handles.items ≡ map input_number inputs.items =
    sym (numbers_of handles.items) ∙ ap (map input_number) (started.each is_all) in
    let history : closed.board.history ≡ seat.seen = ap (λ (b : Book). b.history) is_closed.board ∙ (is_closed.whole whole).0 in
    let P : List ℕ → Type 0 = λ ns. IsStrictlyIncreasing ns in
    record {
      numbers = map handle_number handles.items;
      rising = subst P (sym numbers) rising;
      each = ap (λ (h : List Entry). map (λ n. made_by n h) (map handle_number handles.items)) history ∙ credits;
    }

-- what holds of the reports holds of the outcome that has them
pub reported_in : (P : List Report → Type 0) (reports : List Report) (result : Result Outcome RunRefused) →
    IfOk result (λ o. o.reports ≡ reports) → P reports → IfOk result (λ o. P o.reports)
reported_in P reports (Ok o) is there = subst P (sym is) there
reported_in P reports (Err e) is there = tt
