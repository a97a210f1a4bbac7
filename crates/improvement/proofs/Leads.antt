-- The history that leads.
use Rattle.std.proofs.Common.{◌≡◌, ℕ, Bool, true, false, nat_lt, min, List, [], ◌∷◌, Option, Some, None, if◌then◌else◌, refl, ◌∙◌, ap}
use Rattle.std.proofs.Common.{arith}
use Rattle.std.proofs.lemmas.Bool.Decides.{nat_tests}
use Rattle.league.specs.League.{LeagueData}
use Rattle.fixture_board.specs.declared.change.Entry.{Entry}
use Rattle.fixture_board.specs.History.{IsLegal}
use Rattle.fixture_board.specs.Rewound.{rewound}
use Rattle.fixture_board.proofs.ForCallers.{is_legal_none}
use Rattle.fixture_board.proofs.Rewinding.{same_best_rewound}
use Rattle.annealing.specs.Legs.{total_in}
use Rattle.improvement.specs.declared.standing.Standing.{Standing}
use Rattle.improvement.specs.Legs.{AreLegs, LegRun, improves, improves_by, lead_of, least_in, least_reported, lesser, standing_of}

pub rewound_least : (league : LeagueData) (h : List Entry) → least_in league (rewound league h) ≡ least_in league h
rewound_least league h = ap total_in (same_best_rewound league 0 h).best

lesser_number : (x y : ℕ) → (if nat_lt x y then Some x else Some y) ≡ Some (min y x)
lesser_number x y = grind (arith, nat_tests)

by_best : (x y : Option ℕ) (fewer : Bool) → (if improves_by x y fewer then x else y) ≡ lesser y x
by_best (Some x) (Some y) fewer = lesser_number x y
by_best (Some x) None fewer = refl
by_best None (Some y) fewer = refl
by_best None None true = refl
by_best None None false = refl

improves_best : (a b : Standing) → (if improves a b then a.best else b.best) ≡ lesser b.best a.best
unfolding improves
improves_best a b = by_best a.best b.best (nat_lt a.hard b.hard)

chosen_least : (league : LeagueData) (h l : List Entry) (c : Bool) →
    least_in league (if c then rewound league h else l) ≡ (if c then least_in league h else least_in league l)
chosen_least league h l true = rewound_least league h
chosen_least league h l false = refl

-- it has the least total of all legs
pub least_leads : (league : LeagueData) (run : LegRun) (before : List LegRun) →
    least_in league (lead_of league (run ∷ before)) ≡ least_reported league (run ∷ before)
unfolding lead_of
least_leads league run [] = rewound_least league run.history
least_leads league run (r ∷ before) =
    let h = run.history in
    let l = lead_of league (r ∷ before) in
    chosen_least league h l (improves (standing_of league h) (standing_of league l)) ∙ improves_best (standing_of league h) (standing_of league l) ∙
    ap (λ (least : Option ℕ). lesser least (least_in league h)) (least_leads league r before)

legal_by : (league : LeagueData) (room : ℕ) (h l : List Entry) (c : Bool) → IsLegal league room h → IsLegal league room l →
    IsLegal league room (if c then rewound league h else l)
legal_by league room h l true legal before = (same_best_rewound league room h).legal legal
legal_by league room h l false legal before = before

pub lead_legal : (league : LeagueData) (room : ℕ) (legs : List LegRun) → AreLegs league room legs →
    IsLegal league room (lead_of league legs)
unfolding lead_of
lead_legal league room [] are = is_legal_none league room
lead_legal league room (run ∷ []) are = (same_best_rewound league room run.history).legal are.0.legal
lead_legal league room (run ∷ r ∷ before) are =
    legal_by league room run.history (lead_of league (r ∷ before)) _ are.0.legal (lead_legal league room (r ∷ before) are.1)
