-- Which changes keep a deviation.
use Rattle.std.specs.Prelude.{◌≡◌, ℕ, ◌+◌, ◌<◌, ◌||◌, Bool, true, false}
use Rattle.league.specs.Sets.{has}
use Rattle.league.specs.RuleLimits.{IsBodyFor}
use Rattle.league.specs.declared.rule.RuleBody.{RuleBody}
use Rattle.fixtures.specs.Games.{Games, is_home, IsDoubleRoundRobin}
use Rattle.fixtures.specs.Changes.{DiffersOnlyIn, DiffersOnlyAt, DiffersOnlyAround, box}
use Rattle.rules.specs.Deviations.{deviation}
use Rattle.rules.specs.Touches.{touches}
use Rattle.rules.specs.LooksPast.{looks_past}
use Rattle.rules.specs.Parts.{is_guest, deviation_part}

-- schedules that differ only in cells that don't touch a rule are equally far from it
abbrev pub UntouchedStays : Type 0
UntouchedStays =
    (g g' : Games) (teams rounds : ℕ → Bool) (body : RuleBody) → IsDoubleRoundRobin g → IsDoubleRoundRobin g' →
    IsBodyFor g.teams body → DiffersOnlyIn g g' teams rounds → touches body teams rounds ≡ false →
    deviation g' body ≡ deviation g body

-- what a change around some teams, of which only side teams change their sides, adds to the part of a deviation, it adds to the deviation
abbrev pub DeviationsBalance : Type 0
DeviationsBalance =
    (g g' : Games) (main rounds sides : ℕ) (body : RuleBody) → IsDoubleRoundRobin g → IsDoubleRoundRobin g' →
    IsBodyFor g.teams body → DiffersOnlyAround g g' (has main) (has rounds) →
    DiffersOnlyAt is_home g g' (box (has sides) (has rounds)) →
    deviation g' body + deviation_part g main rounds sides body ≡
    deviation g body + deviation_part g' main rounds sides body

-- each side team is a main team
abbrev pub SidesAreMain : ℕ → ℕ → Type 0
SidesAreMain main sides = (t : ℕ) → has sides t ≡ true → has main t ≡ true

-- a change can alter nothing of the deviation from a rule that looks past its main teams
abbrev pub LookedPastHasNoPart : Type 0
LookedPastHasNoPart =
    (g : Games) (main rounds sides : ℕ) (body : RuleBody) → IsDoubleRoundRobin g → IsBodyFor g.teams body →
    SidesAreMain main sides → looks_past main body ≡ true → deviation_part g main rounds sides body ≡ 0

-- nor from a rule that isn't touched, if the main teams and their guests are touched
abbrev pub UntouchedHasNoPart : Type 0
UntouchedHasNoPart =
    (g : Games) (main rounds sides : ℕ) (touched : ℕ → Bool) (body : RuleBody) → IsDoubleRoundRobin g →
    IsBodyFor g.teams body → SidesAreMain main sides →
    ((t : ℕ) → t < g.teams → (has main t || is_guest g (has main) (has rounds) t) ≡ true → touched t ≡ true) →
    touches body touched (has rounds) ≡ false → deviation_part g main rounds sides body ≡ 0
