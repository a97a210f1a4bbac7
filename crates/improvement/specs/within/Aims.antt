-- What becomes of a league's start.
use Rattle.std.specs.Prelude.{◌≡◌, Bool, true, false, List, nat_lt}
use Rattle.sets.specs.Pairs.{no_pairs}
use Rattle.league.specs.League.{LeagueData}
use Rattle.league.specs.Starts.{is_given}
use Rattle.fixture_board.specs.declared.change.Entry.{Entry}
use Rattle.fixture_board.specs.History.{cost_at}
use Rattle.policy.specs.declared.waves.Aim.{Aim}
use Rattle.policy.specs.declared.waves.Aim.TheVariants.{Anew, GoOn, Repair}

-- no game of the start is kept, and leaving it costs nothing
abbrev pub IsFree : LeagueData → Type 0
IsFree league = (league.origin.kept ≡ no_pairs) × (league.origin.near ≡ 0)

-- a start that isn't free is repaired. The league's own schedule goes on, and a table is melted
abbrev pub IsAimOf : LeagueData → Aim → Type 0
IsAimOf league Repair = ¬ IsFree league
IsAimOf league GoOn = IsFree league × (is_given league.origin.start ≡ true)
IsAimOf league Anew = IsFree league × (is_given league.origin.start ≡ false)

-- whether the schedule after a history breaks hard rules
abbrev pub breaks_rules : LeagueData → List Entry → Bool
breaks_rules league h = nat_lt 0 (cost_at league h).of_rules
