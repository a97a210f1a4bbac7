-- What holds of all that an improvement writes, and of what it ends with.
use Rattle.std.specs.Prelude.{◌≡◌, ℕ, ◌<◌, ◌≤◌, Bool, true, false, List, [], ◌∷◌, ◌++◌, length, All, Option, Some, None, codes}
use Rattle.league.specs.League.{LeagueData, teams}
use Rattle.fixtures.specs.Games.{Games, IsDoubleRoundRobin}
use Rattle.league.specs.Starts.{start_of}
use Rattle.costs.specs.Costs.{cost_of, total_of}
use Rattle.fixture_board.specs.declared.change.Entry.{Entry}
use Rattle.fixture_board.specs.declared.best.Best.{Best}
use Rattle.fixture_board.specs.History.{IsLegal, best_of}
use Rattle.text_lines.specs.Lines.{counted, numbered}
use Rattle.improvement.specs.declared.broken.Part.{Part}
use Rattle.improvement.specs.Broken.{breaches}
use Rattle.improvement.specs.Legs.{LegRun, least_in}
use Rattle.improvement.specs.Solutions.{Solution, best_solution, is_below, solutions_of}

-- a double round robin of the league's teams that keeps all hard limits, with its total
pub record IsSolution (league : LeagueData) (s : Solution) : Type 0 where
  pub robin : IsDoubleRoundRobin s.games
  pub of_league : s.games.teams ≡ teams league
  pub feasible : (cost_of league s.games).hard ≡ 0
  pub total_is : s.total ≡ total_of (cost_of league s.games)

-- the newest of these, which stands first
abbrev pub newest : List Solution → Option Solution
newest [] = None
newest (s ∷ older) = Some s

abbrev pub newest_total : List Solution → Option ℕ
newest_total [] = None
newest_total (s ∷ older) = Some s.total

-- each total is below the one before it
abbrev pub Fall : List Solution → Type 0
Fall [] = Unit {0}
Fall (s ∷ older) = (is_below s.total (newest_total older) ≡ true) × Fall older

-- there is no second total, or there are both and the first is at most the second
abbrev pub IsAtMost : Option ℕ → Option ℕ → Type 0
IsAtMost least None = Unit {0}
IsAtMost None (Some total) = ⊥
IsAtMost (Some least) (Some total) = least ≤ total

-- a history that all legs together come to
pub record IsEnd (league : LeagueData) (room : ℕ) (legs : List LegRun) (h : List Entry) : Type 0 where
  pub legal : IsLegal league room h
  -- its best total is at most that of each leg, and that of the league's start if that is feasible
  pub each : All (λ run. IsAtMost (least_in league h) (least_in league run.history)) legs
  pub start : (cost_of league (start_of league)).hard ≡ 0 →
      IsAtMost (least_in league h) (Some (total_of (cost_of league (start_of league))))
  -- its best version is its last one, with the newest solution
  pub whole : (best : Best) → best_of league h ≡ Some best → best.at ≡ length h
  pub last : newest (solutions_of league legs) ≡ best_solution league h

-- the last line with this total and, with a history, so many entries of that
abbrev pub last_line : Bool → Option ℕ → ℕ → List ℕ
last_line history None n = codes "best none\n"
last_line true (Some total) n = counted (codes "best ") total ++ numbered (codes " at ") n
last_line false (Some total) n = numbered (codes "best ") total

pub record BeginsWith (front text : List ℕ) : Type 0 where
  pub rest : List ℕ
  pub is : text ≡ front ++ rest

pub record EndsWith (end text : List ℕ) : Type 0 where
  pub front : List ℕ
  pub is : text ≡ front ++ end

-- each double round robin of the league's teams breaks the part
abbrev pub CannotBeKept : LeagueData → Part → Type 0
CannotBeKept league part = (g : Games) → IsDoubleRoundRobin g → g.teams ≡ teams league → 0 < breaches league part g
