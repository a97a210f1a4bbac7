-- The report on a leg that a watcher gets, and what stands at the sink then.
use Rattle.std.specs.Prelude.{◌≡◌, ℕ, ◌+◌, ◌-◌, ◌*◌, ◌/◌, ◌^◌, ◌==◌, ◌||◌, min, Bool, if◌then◌else◌, List, [], ◌∷◌, length, Option, Some, None}
use Rattle.std.specs.Io.KnownBytes.{Appends}
use Rattle.league.specs.League.{LeagueData}
use Rattle.fixture_board.specs.declared.change.Entry.{Entry}
use Rattle.fixture_board.specs.Record.{Book, book}
use Rattle.policy.specs.declared.legs.Course.{Course}
use Rattle.policy.specs.declared.legs.Course.TheVariants.{Cools, Heats}
use Rattle.policy.specs.declared.legs.LegEnd.{LegEnd}
use Rattle.annealing.specs.declared.unit.Unit.{Unit as Measure}
use Rattle.annealing.specs.Walks.{IsUnitOf}
use Rattle.improvement.specs.declared.reported_leg.ReportedLeg.{ReportedLeg}
use Rattle.improvement.specs.declared.watcher.LegEnded.{LegEnded}
use Rattle.improvement.specs.declared.watcher.Written.{Written}
use Rattle.improvement.specs.Legs.{LegRun, improves, lead_of, least_reported, room_of, standing_of}
use Rattle.improvement.specs.Outcome.{AreLegTexts}

-- a temperature in thousandths of a distance, from one in thousandths of the unit
abbrev pub in_thousandths : Measure → ℕ → ℕ
in_thousandths unit heat = min (heat * unit.numerator / unit.denominator) (2 ^ 64 - 1)

abbrev pub first_heat : Course → ℕ
first_heat (Cools from to) = from
first_heat (Heats from to) = from

-- of a leg that heats the highest one that it had
abbrev pub last_heat : Course → LegEnd → ℕ
last_heat (Cools from to) end = to
last_heat (Heats from to) end = end.hottest

-- a run, as the leg of this number
abbrev pub reported_as : ℕ → LegRun → ReportedLeg
reported_as number run = record { number = number; chain = run.chain; leg = run.leg; end = run.end }

-- what is told of a leg, in a league of this unit and with this least total of all legs so far
abbrev pub ended_as : Measure → ReportedLeg → Option ℕ → LegEnded
ended_as unit reported least = record {
  number = reported.number;
  chain = reported.chain;
  moves = reported.leg.moves;
  from = in_thousandths unit (first_heat reported.leg.course);
  to = in_thousandths unit (last_heat reported.leg.course reported.end);
  steps = reported.end.steps;
  accepted = reported.end.accepted;
  hard = reported.end.hard;
  best = reported.end.best;
  least = least;
}

-- whether the second history leads after so many legs of which the first one led: it is the first leg's, or better
abbrev pub takes_lead : LeagueData → ℕ → List Entry → List Entry → Bool
takes_lead league reported leading h = reported == 0 || improves (standing_of league h) (standing_of league leading)

-- a board with the history that leads, if this run after those before it changed that
abbrev pub lead_shown : LeagueData → ℕ → LegRun → List LegRun → Option Book
lead_shown league room run before =
    if takes_lead league (length before) (lead_of league before) run.history
    then Some (book league room (lead_of league (run ∷ before))) else None

-- it is the newest of these legs that is reported, with the board that it has to show
abbrev pub IsNewest : LeagueData → ℕ → Measure → List LegRun → LegEnded → Option Book → Type 0
IsNewest league room unit [] leg better = ⊥
IsNewest league room unit (run ∷ before) leg better =
    (leg ≡ ended_as unit (reported_as (length before + 1) run) (least_reported league (run ∷ before)))
    × (better ≡ lead_shown league room run before)

-- Behind what the sink held when it was lent stand the better schedules of all legs so far, whole, and nothing else. The leg that is reported is
-- the newest of them
pub record HasLines {W : Type 0} (held : W → Option (List ℕ)) (written : Written W) (leg : LegEnded) (better : Option Book) : Type 0 where
  pub text : List ℕ
  pub texts : AreLegTexts written.league.now written.plan text
  pub unit : Measure
  pub unit_is : IsUnitOf written.league.now unit
  pub newest : IsNewest written.league.now (room_of written.plan.effort) unit texts.legs leg better
  pub stands : Appends (held written.lent.now.value.sink.now) (held written.now.value.sink.now) text
