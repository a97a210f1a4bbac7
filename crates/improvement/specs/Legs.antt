-- What the legs of an improvement come to, one after another. In a list of legs the newest is first.
use Rattle.std.specs.Prelude.{◌≡◌, ◌⊎◌, ℕ, ◌≤◌, nat_lt, min, if◌then◌else◌, Bool, true, false, List, [], ◌∷◌, sum_by}
use Rattle.std.specs.Prelude.{Option, Some, None}
use Rattle.league.specs.League.{LeagueData}
use Rattle.fixture_board.specs.declared.change.Entry.{Entry}
use Rattle.choices.specs.Limits.{max_room}
use Rattle.fixture_board.specs.History.{IsLegal, best_of, cost_at}
use Rattle.fixture_board.specs.Laws.{least_of}
use Rattle.fixture_board.specs.Record.{book}
use Rattle.fixture_board.specs.Rewound.{rewound}
use Rattle.policy.specs.declared.legs.Leg.{Leg}
use Rattle.policy.specs.declared.legs.LegEnd.{LegEnd}
use Rattle.policy.specs.Legs.{kinds_of}
use Rattle.annealing.specs.Legs.{AreFigures, GoesOn, total_in}
use Rattle.improvement.specs.declared.plan.ImprovePlan.{ImprovePlan}
use Rattle.improvement.specs.declared.standing.Standing.{Standing}

-- a leg that was run: the number of its chain, what it was to do, what it came to, and the history that its chain had then
pub record LegRun : Type 0 where
  pub chain : ℕ
  pub leg : Leg
  pub end : LegEnd
  pub history : List Entry

abbrev pub IsWorkers : ImprovePlan → Type 0
IsWorkers plan = (1 ≤ plan.workers) × (plan.workers ≤ 16)

-- how many entries a history may have
abbrev pub room_of : ℕ → ℕ
room_of effort = min effort max_room

-- a history with which a leg of the chain may begin: without an entry, or as an earlier leg of the chain ended, up to its best version if
-- there is one
abbrev pub CanBegin : LeagueData → List LegRun → ℕ → List Entry → Type 0
CanBegin league [] chain start = start ≡ []
CanBegin league (run ∷ before) chain start =
    ((run.chain ≡ chain) × (start ≡ rewound league run.history)) ⊎ CanBegin league before chain start

-- the leg went on from such a history by moves of its kinds, and its figures are those of the history that it ended with
pub record IsLegAfter (league : LeagueData) (room : ℕ) (before : List LegRun) (run : LegRun) : Type 0 where
  pub start : List Entry
  pub begins : CanBegin league before run.chain start
  pub goes_on : GoesOn (kinds_of run.leg.moves) run.end.accepted start run.history
  pub legal : IsLegal league room run.history
  pub never_worse : least_of league run.history ≤ least_of league start
  pub figures : AreFigures run.leg (book league room run.history) run.end

-- each is a leg after those before it
abbrev pub AreLegs : LeagueData → ℕ → List LegRun → Type 0
AreLegs league room [] = Unit {0}
AreLegs league room (run ∷ before) = IsLegAfter league room before run × AreLegs league room before

abbrev pub steps_of : LegRun → ℕ
steps_of run = run.end.steps

abbrev pub steps_in : List LegRun → ℕ
steps_in = sum_by steps_of

-- the least total in a history, if a version of it is feasible
abbrev pub least_in : LeagueData → List Entry → Option ℕ
least_in league h = total_in (best_of league h)

-- the lesser of two totals, of which none is greater than all
abbrev pub lesser : Option ℕ → Option ℕ → Option ℕ
lesser None b = b
lesser (Some a) None = Some a
lesser (Some a) (Some b) = Some (min a b)

-- the least total in all these legs
abbrev pub least_reported : LeagueData → List LegRun → Option ℕ
least_reported league [] = None
least_reported league (run ∷ before) = lesser (least_reported league before) (least_in league run.history)

abbrev pub standing_of : LeagueData → List Entry → Standing
standing_of league h = record { best = least_in league h; hard = (cost_at league h).hard }

-- whether the first is better: it has a lesser total, or the other has none, or neither has one and it has fewer breaches of hard limits
abbrev pub improves_by : Option ℕ → Option ℕ → Bool → Bool
improves_by (Some x) (Some y) fewer = nat_lt x y
improves_by (Some x) None fewer = true
improves_by None (Some y) fewer = false
improves_by None None fewer = fewer

unfoldable pub improves : Standing → Standing → Bool
improves a b = improves_by a.best b.best (nat_lt a.hard b.hard)

-- the second history, up to its best version if it has one, if it is better than the first
abbrev pub ahead : LeagueData → List Entry → List Entry → List Entry
ahead league leading h = if improves (standing_of league h) (standing_of league leading) then rewound league h else leading

-- the history that all legs together come to: of those that they ended with the first that no other is better than
unfoldable pub lead_of : LeagueData → List LegRun → List Entry
lead_of league [] = []
lead_of league (run ∷ []) = rewound league run.history
lead_of league (run ∷ r ∷ before) = ahead league (lead_of league (r ∷ before)) run.history
