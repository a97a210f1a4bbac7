-- One leg more.
use Rattle.std.proofs.Common.{◌≡◌, ℕ, suc, ◌+◌, ◌≤◌, ◌==◌, false, List, [], ◌∷◌, ◌++◌, length, inl, inr, Option, Some, None, IfSome, IfNone, Err}
use Rattle.std.proofs.Common.{refl, sym, ◌∙◌, ap, subst, subst₂, true≢false, arith}
use Rattle.std.proofs.lemmas.Bool.Decides.{nat_tests}
use Rattle.std.proofs.lemmas.List.Elements.{All-cons, All-nil, All-weaker}
use Rattle.std.proofs.lemmas.List.Sums.{sum_by-cons}
use Rattle.league.specs.League.{LeagueData}
use Rattle.fixture_board.specs.History.{IsLegal}
use Rattle.fixture_board.specs.Laws.{least_of}
use Rattle.fixture_board.specs.Record.{Book, book}
use Rattle.byte_streams.specs.declared.buffered.BufferedSink.{BufferedSink}
use Rattle.byte_streams.specs.declared.tally.Tally.{Tally}
use Rattle.byte_streams.specs.Writing.{Adds, Stops, waiting_in}
use Rattle.byte_streams.proofs.Pieces.{Adds-nothing, Adds-stops, Adds-then, Stops-more}
use Rattle.annealing.specs.declared.chain.Annealed.{Annealed}
use Rattle.annealing.specs.Legs.{AreFigures}
use Rattle.improvement.specs.declared.field.Entrant.{Entrant}
use Rattle.improvement.specs.declared.legs.RunningLeg.{RunningLeg}
use Rattle.improvement.specs.declared.legs.Assignment.{Assignment}
use Rattle.improvement.specs.declared.legs.WaitingLeg.{WaitingLeg}
use Rattle.improvement.specs.declared.line.LegQueue.{LegQueue}
use Rattle.improvement.specs.declared.plan.ImproveFault.{ImproveFault}
use Rattle.improvement.specs.declared.plan.ImproveFault.TheVariants.{Workers, Memory, Write}
use Rattle.improvement.specs.declared.plan.ImprovePlan.{ImprovePlan}
use Rattle.improvement.specs.declared.reported.Reported.{Reported}
use Rattle.improvement.specs.Chains.{chains_of, offered, reached}
use Rattle.improvement.specs.within.Fields.{StageData}
use Rattle.improvement.specs.Solutions.{solutions_of}
use Rattle.improvement.specs.Legs.{AreLegs, IsLegAfter, LegRun, lead_of, least_in, least_reported, lesser, steps_in, steps_of}
use Rattle.improvement.specs.within.Legs.{lead_after}
use Rattle.improvement.specs.LegText.{blocks, ending, improve_text, legs_text}
use Rattle.improvement.specs.within.LegText.{solution_text}
use Rattle.improvement.specs.within.Lines.{CanEnd, IsAtBeginning, IsEntrant, IsLine, IsRunning, IsStage, IsWaiting, MayBegin, anew, left_in}
use Rattle.improvement.specs.within.Lines.{running_steps, assigned_steps}
use Rattle.improvement.specs.within.UnderWay.{EndsBy, HasReported, HasSent, HasStopped, HasTold, IsUnderWay, Sends, run_of}
use Rattle.improvement.proofs.RunAll.{HasRunAll}
use Rattle.improvement.proofs.Blocks.{legs_text_more}
use Rattle.improvement.proofs.Lines.{state_weaker}

-- ---- what may go on after some legs may do so after one more

module _ (start : Book) (legs : List LegRun) (run : LegRun) where
  begins_later : (chain : ℕ) (board : Book) → IsAtBeginning start legs chain board → IsAtBeginning start (run ∷ legs) chain board
  begins_later chain board is = record { alike = is.alike; begins = inr is.begins }

  entrant_later : (e : Entrant) → IsEntrant start legs e → IsEntrant start (run ∷ legs) e
  entrant_later e is = record { alike = is.alike; begins = inr is.begins }

  may_later : (chain : ℕ) (board : Option Book) → MayBegin start legs chain board → MayBegin start (run ∷ legs) chain board
  may_later chain None may = tt
  may_later chain (Some board) may = begins_later chain board may

  waiting_later : (w : WaitingLeg) → IsWaiting start legs w → IsWaiting start (run ∷ legs) w
  waiting_later w is = record { leg = is.leg; begins = may_later w.assignment.chain w.board is.begins }

  end_later : (assignment : Assignment) (now : Annealed) → CanEnd start legs assignment now → CanEnd start (run ∷ legs) assignment now
  end_later assignment now e = record {
    weights = e.weights;
    old = e.old;
    begins = begins_later assignment.chain e.old.board e.begins;
    annealed = e.annealed;
  }

  running_later : (r : RunningLeg) → IsRunning start legs r → IsRunning start (run ∷ legs) r
  running_later r is = state_weaker (CanEnd start legs r.assignment) (CanEnd start (run ∷ legs) r.assignment) (end_later r.assignment) r.state is

  stage_later : (s : StageData) → IsStage start legs s → IsStage start (run ∷ legs) s
  stage_later s is = record {
    before = All-weaker (IsEntrant start legs) (IsEntrant start (run ∷ legs)) entrant_later s.before is.before;
    field = All-weaker (IsEntrant start legs) (IsEntrant start (run ∷ legs)) entrant_later s.field is.field;
  }

  pub line_later : (line : LegQueue) → IsLine start legs line → IsLine start (run ∷ legs) line
  line_later line is = record {
    stage = stage_later line.stage is.stage;
    running = All-weaker (IsRunning start legs) (IsRunning start (run ∷ legs)) running_later line.running.items is.running;
    waiting = All-weaker (IsWaiting start legs) (IsWaiting start (run ∷ legs)) waiting_later line.waiting.items is.waiting;
  }

-- ---- a leg that has ended

module _ {start : Book} {legs : List LegRun} (assignment : Assignment) (now : Annealed) (e : CanEnd start legs assignment now) where
  pub league_is : now.chain.board.league ≡ start.league
  league_is = e.annealed.board.league ∙ e.begins.alike.league_is

  pub room_is : now.chain.board.room ≡ start.room
  room_is = e.annealed.board.room ∙ e.begins.alike.room_is

  pub leg_is : IsLegAfter start.league start.room legs (run_of assignment now)
  leg_is =
      let h = now.chain.board.history in
      record {
        start = e.old.board.history;
        begins = e.begins.begins;
        goes_on = e.annealed.board.goes_on;
        legal = subst₂ (λ (l : LeagueData) (r : ℕ). IsLegal l r h) league_is room_is e.annealed.legal;
        never_worse = subst (λ (l : LeagueData). least_of l h ≤ least_of l e.old.board.history) e.begins.alike.league_is
            e.annealed.never_worse;
        figures = subst₂ (λ (l : LeagueData) (r : ℕ). AreFigures assignment.leg (book l r h) now.end) league_is room_is e.annealed.figures;
      }

  pub entrant_is : IsEntrant start (run_of assignment now ∷ legs) (record { number = assignment.chain; chain = now.chain })
  entrant_is = record { alike = record { league_is = league_is; room_is = room_is }; begins = inl (refl, refl) }

legs_few : (league : LeagueData) (room : ℕ) (legs : List LegRun) → AreLegs league room legs → length legs ≤ steps_in legs
legs_few league room [] are = omega arith
legs_few league room (run ∷ before) are =
    omega (arith, legs_few league room before are.1, are.0.figures.some, sum_by-cons steps_of run before)

-- ---- what is known of the legs

not_first : (n : ℕ) → (suc n == 0) ≡ false
not_first n = grind (arith, nat_tests)

lead_next : (league : LeagueData) (run : LegRun) (legs : List LegRun) →
    lead_after league (length legs) (lead_of league legs) run.history ≡ lead_of league (run ∷ legs)
unfolding lead_of
lead_next league run [] = refl
lead_next league run (r ∷ before) = rw (not_first (length before)) refl

-- before the first leg
pub reported_none : (start : Book) (reported : Reported) → reported.lead ≡ anew start → reported.least ≡ None → reported.legs ≡ 0 →
    reported.chains.bests.items ≡ [] → HasReported start [] reported
unfolding lead_of chains_of
reported_none start reported lead least count chains = record { lead_is = lead; least_is = least; count = count; chains_is = chains }

pub reported_more : (start : Book) (legs : List LegRun) (reported new : Reported) (assignment : Assignment) (now : Annealed) → HasReported start legs reported →
    new.lead ≡ book reported.lead.league reported.lead.room (lead_after reported.lead.league reported.legs reported.lead.history now.chain.board.history) →
    new.least ≡ lesser reported.least (least_in reported.lead.league now.chain.board.history) → new.legs ≡ reported.legs + 1 →
    new.chains.bests.items ≡ offered (reached assignment.chain reported.lead.league now.chain.board.history) reported.chains.bests.items →
    HasReported start (run_of assignment now ∷ legs) new
unfolding chains_of
reported_more start legs reported new assignment now is lead least count chains = record {
  lead_is = lead ∙ rw (is.lead_is, is.count) (ap (book start.league start.room) (lead_next start.league (run_of assignment now) legs));
  least_is = least ∙ rw (is.lead_is, is.least_is) refl;
  count = omega (arith, count, is.count);
  chains_is = chains ∙ rw (is.lead_is, is.chains_is) refl;
}

text_is : (start : Book) (legs : List LegRun) (reported : Reported) (assignment : Assignment) (now : Annealed) → CanEnd start legs assignment now →
    HasReported start legs reported → solution_text now.chain.board.league reported.least now.chain.board.history ≡
    solution_text start.league (least_reported start.league legs) now.chain.board.history
text_is start legs reported assignment now e is = rw (league_is assignment now e, is.least_is) refl

module _ {W : Type 0} (held : W → Option (List ℕ)) (tally : W → Tally) (start : Book) (plan : ImprovePlan) where
  pub sent_of : {a b : BufferedSink W} (legs : List LegRun) (reported : Reported) → HasTold held tally start plan a b legs reported →
      HasSent held tally start plan a b
  sent_of legs reported told = record { legs = legs; are = told.are; sends = told.sends }

  sends_more : {a b c : BufferedSink W} (legs : List LegRun) (reported : Reported) (assignment : Assignment) (now : Annealed) →
      HasTold held tally start plan a b legs reported → CanEnd start legs assignment now →
      Adds held tally b c (solution_text now.chain.board.league reported.least now.chain.board.history) → waiting_in c ≡ [] →
      Sends held tally start plan a c (legs_text start.league (run_of assignment now ∷ legs))
  sends_more {a} {b} {c} legs reported assignment now told e adds none = record {
    adds = subst (Adds held tally a c) (sym (legs_text_more start.league (run_of assignment now) legs))
        (Adds-then told.sends.adds (subst (Adds held tally b c) (text_is start legs reported assignment now e told.reported_is) adds));
    sent = none;
  }

  -- the text of one more leg was sent, whether or not more became known
  pub sent_more : {a b c : BufferedSink W} (legs : List LegRun) (reported : Reported) (assignment : Assignment) (now : Annealed) →
      HasTold held tally start plan a b legs reported → CanEnd start legs assignment now →
      Adds held tally b c (solution_text now.chain.board.league reported.least now.chain.board.history) → waiting_in c ≡ [] →
      HasSent held tally start plan a c
  sent_more legs reported assignment now told e adds none = record {
    legs = run_of assignment now ∷ legs;
    are = (leg_is assignment now e, told.are);
    sends = sends_more legs reported assignment now told e adds none;
  }

  pub told_more : {a b c : BufferedSink W} (legs : List LegRun) (reported new : Reported) (assignment : Assignment) (now : Annealed) →
      HasTold held tally start plan a b legs reported → CanEnd start legs assignment now →
      Adds held tally b c (solution_text now.chain.board.league reported.least now.chain.board.history) → waiting_in c ≡ [] →
      HasReported start (run_of assignment now ∷ legs) new → HasTold held tally start plan a c (run_of assignment now ∷ legs) new
  told_more legs reported new assignment now told e adds none known = record {
    are = (leg_is assignment now e, told.are);
    sends = sends_more legs reported assignment now told e adds none;
    reported_is = known;
  }

  early_text : (legs : List LegRun) →
      improve_text start.league plan.history false legs ≡ legs_text start.league legs ++ ending start.league plan.history false legs
  unfolding improve_text
  early_text legs = refl

  pub stopped_more : {a b c : BufferedSink W} (legs : List LegRun) (reported : Reported) (assignment : Assignment) (now : Annealed) →
      HasTold held tally start plan a b legs reported → CanEnd start legs assignment now →
      Stops held tally b c (solution_text now.chain.board.league reported.least now.chain.board.history) →
      HasStopped held tally start plan a c
  stopped_more {a} {b} {c} legs reported assignment now told e stops =
      let run = run_of assignment now in
      let all : Stops held tally a c (legs_text start.league (run ∷ legs)) =
      subst (Stops held tally a c) (sym (legs_text_more start.league run legs))
      (Adds-stops told.sends.adds (subst (Stops held tally b c) (text_is start legs reported assignment now e told.reported_is) stops)) in
      record {
        legs = run ∷ legs;
        are = (leg_is assignment now e, told.are);
        ended = false;
        all = λ ended. absurd (true≢false (sym ended));
        stops = subst (Stops held tally a c) (sym (early_text (run ∷ legs))) (Stops-more (ending start.league plan.history false (run ∷ legs)) all);
      }

  -- the line goes on with the chain of the leg
  pub under_way_more : {a b c : BufferedSink W} (leg : RunningLeg) (line new : LegQueue) (reported reported' : Reported) (now : Annealed)
      (w : IsUnderWay held tally start plan a b (leg ∷ []) line reported) → CanEnd start w.legs leg.assignment now →
      HasTold held tally start plan a c (run_of leg.assignment now ∷ w.legs) reported' →
      ((legs : List LegRun) → IsEntrant start legs (record { number = leg.assignment.chain; chain = now.chain }) → IsLine start legs line →
      IsLine start legs new) → left_in new + now.end.steps ≡ left_in line + assigned_steps leg.assignment →
      IsUnderWay held tally start plan a c [] new reported'
  under_way_more leg line new reported reported' now w e told goes_on left =
      let run = run_of leg.assignment now in
      record {
        legs = run ∷ w.legs;
        told = told;
        steps = omega (arith, w.steps, left, sum_by-cons steps_of run w.legs, sum_by-cons running_steps leg []);
        running = All-nil (IsRunning start (run ∷ w.legs));
        line_is = goes_on (run ∷ w.legs) (entrant_is leg.assignment now e) (line_later start w.legs run line w.line_is);
      }

  -- each leg took a step
  pub few_reported : {a b : BufferedSink W} (legs : List RunningLeg) (line : LegQueue) (reported : Reported) →
      IsUnderWay held tally start plan a b legs line reported → reported.legs ≤ plan.effort
  few_reported legs line reported w =
      omega (arith, w.steps, w.told.reported_is.count, legs_few start.league start.room w.legs w.told.are)

  -- no leg was reported
  none_sent : (a : BufferedSink W) → waiting_in a ≡ [] → Sends held tally start plan a a (legs_text start.league [])
  unfolding blocks solutions_of
  none_sent a none = record { adds = Adds-nothing a; sent = none }

  pub sent_none : (a : BufferedSink W) → waiting_in a ≡ [] → HasSent held tally start plan a a
  sent_none a none = record { legs = []; are = tt; sends = none_sent a none }

  pub under_way_none : (a : BufferedSink W) (line : LegQueue) (reported : Reported) → waiting_in a ≡ [] →
      ((legs : List LegRun) → IsLine start legs line) → left_in line ≡ plan.effort → HasReported start [] reported →
      IsUnderWay held tally start plan a a [] line reported
  under_way_none a line reported none goes_on left known = record {
    legs = [];
    told = record { are = tt; sends = none_sent a none; reported_is = known };
    steps = omega (arith, left);
    running = All-nil (IsRunning start []);
    line_is = goes_on [];
  }

  -- a leg is taken out of the line
  pub under_way_next : {a b : BufferedSink W} (line new : LegQueue) (reported : Reported) (first : Option RunningLeg) (leg : RunningLeg) →
      IsUnderWay held tally start plan a b [] line reported → first ≡ Some leg →
      ((legs : List LegRun) → IsLine start legs line → IsLine start legs new) →
      ((legs : List LegRun) → IsLine start legs line → IfSome first (IsRunning start legs)) →
      IfSome first (λ leg. assigned_steps leg.assignment + left_in new ≡ left_in line) →
      IsUnderWay held tally start plan a b (leg ∷ []) new reported
  under_way_next line new reported first leg w same goes_on runs left =
      let legs = w.legs in
      let is : IsRunning start legs leg = rw same at (runs legs w.line_is) in
      let fewer : assigned_steps leg.assignment + left_in new ≡ left_in line = rw same at left in
      record {
        legs = legs;
        told = w.told;
        steps = omega (arith, w.steps, fewer, sum_by-cons running_steps leg []);
        running = All-cons (IsRunning start legs) leg [] is (All-nil (IsRunning start legs));
        line_is = goes_on legs w.line_is;
      }

  pub run_all_is : {a b : BufferedSink W} (line : LegQueue) (reported : Reported) → IsUnderWay held tally start plan a b [] line reported →
      (plan.first ≡ None → left_in line ≡ 0) → HasRunAll held tally start plan a b reported
  run_all_is line reported w none = record {
    legs = w.legs;
    told = w.told;
    all = record { few = omega (arith, w.steps); all = λ alone. omega (arith, w.steps, none alone) };
  }

  -- a part that did not end well did so for the whole
  pub ends_early : {S T : Type 0} (a b : BufferedSink W) (part : S → Type 0) (whole : T → Type 0) (fault : ImproveFault) →
      EndsBy held tally start plan a b part (Err fault) → EndsBy held tally start plan a b whole (Err fault)
  ends_early a b part whole Workers ends = ends
  ends_early a b part whole Memory ends = ends
  ends_early a b part whole Write ends = ends

pub none_left : {P : Type 0} (first : Option RunningLeg) → ((leg : RunningLeg) → first ≡ Some leg → ⊥) → IfNone first P → P
none_left None others left = left
none_left (Some leg) others left = absurd (others leg refl)
