-- What is written, and what all legs together come to.
use Rattle.std.proofs.Common.{◌≡◌, ℕ, ◌<◌, ◌≤◌, nat_lt, min, Bool, true, false, if◌then◌else◌, List, [], ◌∷◌, length, All}
use Rattle.std.proofs.Common.{Option, Some, None, refl, sym, ◌∙◌, ap, subst, arith}
use Rattle.std.proofs.lemmas.Bool.{ltb-true, ltb-false}
use Rattle.std.proofs.lemmas.List.Elements.{All-cons, All-nil, All-weaker}
use Rattle.std.specs.List.{cons_option}
use Rattle.std.specs.Option.{option_map, unwrap_or}
use Rattle.league.specs.League.{IsLeague, LeagueData}
use Rattle.league.specs.Starts.{start_of}
use Rattle.costs.specs.Costs.{cost_of, total_of}
use Rattle.fixture_board.specs.declared.change.Entry.{Entry}
use Rattle.fixture_board.specs.declared.best.Best.{Best}
use Rattle.costs.specs.declared.cost.Cost.{Cost}
use Rattle.fixture_board.specs.History.{IsBestOf, IsLegal, as_best, best_of, best_prefix, cost_at, effective, games_after, games_of}
use Rattle.fixture_board.specs.Rewound.{rewound}
use Rattle.fixture_board.proofs.ForCallers.{games_of_teams}
use Rattle.fixture_board.proofs.Least.{best_prefix-is_best}
use Rattle.fixture_board.proofs.Rewinding.{same_best_rewound}
use Rattle.fixture_board.proofs.Sound.{IsSound-legal}
use Rattle.board_texts.specs.SearchText.{games_at_best}
use Rattle.annealing.specs.Legs.{total_in}
use Rattle.improvement.specs.Laws.{Fall, IsAtMost, IsEnd, IsSolution, newest, newest_total}
use Rattle.improvement.specs.Legs.{AreLegs, LegRun, improves, improves_by, lead_of, least_in, least_reported, lesser, standing_of}
use Rattle.improvement.specs.Solutions.{Solution, below, best_solution, best_with, is_below, solutions_of}
use Rattle.improvement.proofs.Leads.{lead_legal, least_leads}

-- ---- the totals fall

total_by : (least : ℕ) (s : Solution) (older : List Solution) (c : Bool) → nat_lt s.total least ≡ c → newest_total older ≡ Some least →
    newest_total (cons_option (if c then Some s else None) older) ≡ Some (min least s.total)
total_by least s older true is same = let under : s.total < least = ltb-true s.total least is in ap Some (omega arith)
total_by least s older false is same = let over : least ≤ s.total = ltb-false s.total least is in same ∙ ap Some (omega arith)

newest_more : (league : LeagueData) (h : List Entry) (least best : Option ℕ) (older : List Solution) → newest_total older ≡ least →
    newest_total (cons_option (below least (option_map (best_with league h) best)) older) ≡ lesser least best
newest_more league h None None older same = same
newest_more league h (Some least) None older same = same
newest_more league h None (Some total) older same = refl
newest_more league h (Some least) (Some total) older same =
    total_by least (best_with league h total) older (nat_lt total least) refl same

pub newest_is : (league : LeagueData) (legs : List LegRun) → newest_total (solutions_of league legs) ≡ least_reported league legs
unfolding solutions_of
newest_is league [] = refl
newest_is league (run ∷ before) =
    newest_more league run.history (least_reported league before) (least_in league run.history) (solutions_of league before)
    (newest_is league before)

fall_by : (s : Solution) (older : List Solution) (c : Bool) → is_below s.total (newest_total older) ≡ c → Fall older →
    Fall (cons_option (if c then Some s else None) older)
fall_by s older true is fall = (is, fall)
fall_by s older false is fall = fall

fall_more : (best : Option Solution) (older : List Solution) → Fall older → Fall (cons_option (below (newest_total older) best) older)
fall_more None older fall = fall
fall_more (Some s) older fall = fall_by s older (is_below s.total (newest_total older)) refl fall

pub totals_fall : (league : LeagueData) (legs : List LegRun) → Fall (solutions_of league legs)
unfolding solutions_of
totals_fall league [] = tt
totals_fall league (run ∷ before) =
    let older = solutions_of league before in
    subst (λ (least : Option ℕ). Fall (cons_option (below least (best_solution league run.history)) older)) (newest_is league before)
    (fall_more (best_solution league run.history) older (totals_fall league before))

-- ---- each is feasible

abbrev IfBest : (Solution → Type 0) → Option Solution → Type 0
IfBest P None = Unit {0}
IfBest P (Some s) = P s

best_is : (league : LeagueData) (room : ℕ) (h : List Entry) (found : Option (List Entry)) → IsLeague league → IsBestOf league h found →
    IsLegal league room (unwrap_or found h) →
    IfBest (IsSolution league) (option_map (λ (total : ℕ). record { games = games_at_best league h found; total = total })
    (total_in (as_best league found)))
unfolding cost_at
best_is league room h None limits best legal = tt
best_is league room h (Some p) limits best legal = record {
  robin = (IsSound-legal league room p limits legal).robin;
  of_league = games_of_teams league p;
  feasible = best.feasible;
  total_is = refl;
}

best_holds : (league : LeagueData) (room : ℕ) (h : List Entry) → IsLeague league → IsLegal league room h →
    IfBest (IsSolution league) (best_solution league h)
unfolding best_of
best_holds league room h limits legal =
    best_is league room h (best_prefix league h) limits (best_prefix-is_best league h) ((same_best_rewound league room h).legal legal)

each_by : (P : Solution → Type 0) (s : Solution) (c : Bool) (older : List Solution) → P s → All P older →
    All P (cons_option (if c then Some s else None) older)
each_by P s true older holds all = All-cons P s older holds all
each_by P s false older holds all = all

each_more : (P : Solution → Type 0) (least : Option ℕ) (best : Option Solution) (older : List Solution) → IfBest P best → All P older →
    All P (cons_option (below least best) older)
each_more P least None older holds all = all
each_more P least (Some s) older holds all = each_by P s (is_below s.total least) older holds all

pub solutions_are_feasible : (league : LeagueData) (room : ℕ) (legs : List LegRun) → IsLeague league → AreLegs league room legs →
    All (IsSolution league) (solutions_of league legs)
unfolding solutions_of
solutions_are_feasible league room [] limits are = All-nil (IsSolution league)
solutions_are_feasible league room (run ∷ before) limits are =
    each_more (IsSolution league) (least_reported league before) (best_solution league run.history) (solutions_of league before)
    (best_holds league room run.history limits are.0.legal) (solutions_are_feasible league room before limits are.1)

-- ---- no leg has a lesser total, nor has the start

at_most_same : (a : Option ℕ) → IsAtMost a a
at_most_same None = tt
at_most_same (Some x) = omega arith

at_most_along : (a b c : Option ℕ) → IsAtMost a b → IsAtMost b c → IsAtMost a c
at_most_along a b None ab bc = tt
at_most_along a None (Some z) ab bc = absurd bc
at_most_along None (Some y) (Some z) ab bc = absurd ab
at_most_along (Some x) (Some y) (Some z) ab bc = omega arith

lesser_first : (a b : Option ℕ) → IsAtMost (lesser a b) a
lesser_first None b = tt
lesser_first (Some x) None = omega arith
lesser_first (Some x) (Some y) = omega arith

lesser_second : (a b : Option ℕ) → IsAtMost (lesser a b) b
lesser_second None b = at_most_same b
lesser_second (Some x) None = tt
lesser_second (Some x) (Some y) = omega arith

abbrev IsNotBelow : LeagueData → Option ℕ → LegRun → Type 0
IsNotBelow league total run = IsAtMost total (least_in league run.history)

reported_least : (league : LeagueData) (legs : List LegRun) → All (IsNotBelow league (least_reported league legs)) legs
reported_least league [] = All-nil (IsNotBelow league None)
reported_least league (run ∷ before) =
    let reported = least_reported league before in
    let best = least_in league run.history in
    All-cons (IsNotBelow league (lesser reported best)) run before (lesser_second reported best)
    (All-weaker (IsNotBelow league reported) (IsNotBelow league (lesser reported best))
    (λ r most. at_most_along (lesser reported best) reported (least_in league r.history) (lesser_first reported best) most) before
    (reported_least league before))

start_cost : (league : LeagueData) → cost_at league [] ≡ cost_of league (start_of league)
unfolding cost_at games_of games_after effective
start_cost league = refl

start_by : (league : LeagueData) (h : List Entry) (found : Option (List Entry)) → IsBestOf league h found → (cost_at league []).hard ≡ 0 →
    IsAtMost (total_in (as_best league found)) (Some (total_of (cost_at league [])))
start_by league h None best free = best 0 (omega arith) free
start_by league h (Some p) best free = best.least 0 (omega arith) free

start_most : (league : LeagueData) (h : List Entry) → (cost_of league (start_of league)).hard ≡ 0 →
    IsAtMost (least_in league h) (Some (total_of (cost_of league (start_of league))))
unfolding best_of
start_most league h free =
    let P : Cost → Type 0 = λ c. c.hard ≡ 0 → IsAtMost (least_in league h) (Some (total_of c)) in
    subst P (start_cost league) (start_by league h (best_prefix league h) (best_prefix-is_best league h)) free

-- ---- the last one is that of the history that leads

-- the best schedule of a history with this best prefix
abbrev with_prefix : LeagueData → List Entry → Option (List Entry) → Option Solution
with_prefix league h found =
    option_map (λ (total : ℕ). record { games = games_at_best league h found; total = total }) (total_in (as_best league found))

same_with_prefix : (league : LeagueData) (h l : List Entry) (found : Option (List Entry)) →
    with_prefix league l found ≡ with_prefix league h found
same_with_prefix league h l None = refl
same_with_prefix league h l (Some p) = refl

rewound_solution : (league : LeagueData) (h : List Entry) → best_solution league h ≡ best_solution league (rewound league h)
unfolding best_of
rewound_solution league h =
    same_with_prefix league (rewound league h) h (best_prefix league h) ∙
    ap (with_prefix league (rewound league h)) (sym (same_best_rewound league 0 h).prefix)

first_is : (league : LeagueData) (h : List Entry) (best : Option ℕ) →
    newest (cons_option (below None (option_map (best_with league h) best)) []) ≡ option_map (best_with league h) best
first_is league h None = refl
first_is league h (Some total) = refl

by_test : (a b : Solution) (older : List Solution) (c : Bool) → newest older ≡ Some b →
    newest (cons_option (if c then Some a else None) older) ≡ (if c then Some a else Some b)
by_test a b older true same = refl
by_test a b older false same = same

newest_by : (league : LeagueData) (h l : List Entry) (x y : Option ℕ) (fewer : Bool) (older : List Solution) →
    newest older ≡ option_map (best_with league l) y →
    newest (cons_option (below y (option_map (best_with league h) x)) older) ≡
    (if improves_by x y fewer then option_map (best_with league h) x else option_map (best_with league l) y)
newest_by league h l (Some x) (Some y) fewer older same = by_test (best_with league h x) (best_with league l y) older (nat_lt x y) same
newest_by league h l (Some x) None fewer older same = refl
newest_by league h l None (Some y) fewer older same = same
newest_by league h l None None true older same = same
newest_by league h l None None false older same = same

chosen : (league : LeagueData) (h l : List Entry) (c : Bool) →
    (if c then best_solution league h else best_solution league l) ≡ best_solution league (if c then rewound league h else l)
chosen league h l true = rewound_solution league h
chosen league h l false = refl

newest_leads : (league : LeagueData) (h l : List Entry) (older : List Solution) → newest older ≡ best_solution league l →
    newest (cons_option (below (least_in league l) (best_solution league h)) older) ≡
    best_solution league (if improves (standing_of league h) (standing_of league l) then rewound league h else l)
unfolding improves
newest_leads league h l older same =
    let h_is = standing_of league h in
    let l_is = standing_of league l in
    newest_by league h l h_is.best l_is.best (nat_lt h_is.hard l_is.hard) older same ∙ chosen league h l (improves h_is l_is)

last_leads : (league : LeagueData) (run : LegRun) (before : List LegRun) →
    newest (solutions_of league (run ∷ before)) ≡ best_solution league (lead_of league (run ∷ before))
unfolding solutions_of lead_of
last_leads league run [] = first_is league run.history (least_in league run.history) ∙ rewound_solution league run.history
last_leads league run (r ∷ before) =
    let older = solutions_of league (r ∷ before) in
    let l = lead_of league (r ∷ before) in
    ap (λ (least : Option ℕ). newest (cons_option (below least (best_solution league run.history)) older))
    (sym (least_leads league r before)) ∙
    newest_leads league run.history l older (last_leads league r before)

-- ---- the end

abbrev pub IsWhole : LeagueData → List Entry → Type 0
IsWhole league h = (best : Best) → best_of league h ≡ Some best → best.at ≡ length h

whole_by : (league : LeagueData) (h : List Entry) (found : Option (List Entry)) (best : Best) → as_best league found ≡ Some best →
    best.at ≡ length (unwrap_or found h)
whole_by league h None best same = absurd (cc)
whole_by league h (Some p) best same = ap (λ (o : Option Best). (unwrap_or o best).at) (sym same)

rewound_whole : (league : LeagueData) (h : List Entry) → IsWhole league (rewound league h)
unfolding best_of
rewound_whole league h best same =
    whole_by league h (best_prefix league h) best (sym (same_best_rewound league 0 h).best ∙ same)

chosen_whole : (league : LeagueData) (h l : List Entry) (c : Bool) → IsWhole league l → IsWhole league (if c then rewound league h else l)
chosen_whole league h l true before = rewound_whole league h
chosen_whole league h l false before = before

pub lead_whole : (league : LeagueData) (run : LegRun) (before : List LegRun) → IsWhole league (lead_of league (run ∷ before))
unfolding lead_of
lead_whole league run [] = rewound_whole league run.history
lead_whole league run (r ∷ before) =
    let l = lead_of league (r ∷ before) in
    chosen_whole league run.history l (improves (standing_of league run.history) (standing_of league l)) (lead_whole league r before)

pub end_is_least : (league : LeagueData) (room : ℕ) (legs : List LegRun) → AreLegs league room legs → 0 < length legs →
    IsEnd league room legs (lead_of league legs)
end_is_least league room [] are some = absurd (omega arith)
end_is_least league room (run ∷ before) are some =
    let all = run ∷ before in
    record {
      legal = lead_legal league room all are;
      each = subst (λ (total : Option ℕ). All (IsNotBelow league total) all) (sym (least_leads league run before)) (reported_least league all);
      start = start_most league (lead_of league all);
      whole = lead_whole league run before;
      last = last_leads league run before;
    }
