-- The schedule of a legal history is a double round robin and has the pinned games.
use Rattle.std.proofs.Common.{◌≡◌, ℕ, List, [], ◌∷◌, ◌++◌, sym, subst, append_assoc, append-nil}
use Rattle.league.specs.League.{LeagueData, IsLeague}
use Rattle.fixtures.specs.declared.game.Game.{Game}
use Rattle.fixtures.specs.Games.{Games, IsDoubleRoundRobin}
use Rattle.fixture_board.specs.declared.change.Change.{Change}
use Rattle.fixture_board.specs.declared.change.Change.TheVariants.{Shift, Pin, Unpin, Undo}
use Rattle.fixture_board.specs.declared.change.Entry.{Entry}
use Rattle.league.specs.Starts.{start_of, kept_games}
use Rattle.fixture_board.specs.History.{effective, shifted, games_after, games_of, pinned, pins_after, AllStand}
use Rattle.fixture_board.specs.History.{legal_after, IsLegal, Fits}
use Rattle.fixture_board.specs.Laws.{IsSound}
use Rattle.league.proofs.ForCallers.{round_robin_start}
use Rattle.moves.proofs.ForCallers.{each_double_round_robin}
use Rattle.fixture_board.proofs.KeptGames.{AllStand-kept}
use Rattle.fixture_board.proofs.Stand.{Fit, FitFrom, FitFrom-more, AllStand-after, AllStand-fit}

-- the changes in effect of a legal history fit

FitFrom-after : (league : LeagueData) (room : ℕ) (before h : List Entry) → FitFrom league (effective before) →
    legal_after league room before h → FitFrom league (effective (before ++ h))
FitFrom-after league room before [] all legal = subst (λ b. FitFrom league (effective b)) (sym (append-nil before)) all
FitFrom-after league room before (e ∷ h) all legal =
    subst (λ b. FitFrom league (effective b)) (append_assoc before (e ∷ []) h)
    (FitFrom-after league room (before ++ e ∷ []) h (FitFrom-more league before e all legal.0.1) legal.1)

pub FitFrom-legal : (league : LeagueData) (room : ℕ) (h : List Entry) → IsLegal league room h → FitFrom league (effective h)
unfolding IsLegal effective
FitFrom-legal league room h legal = FitFrom-after league room [] h tt legal

pub IsDoubleRoundRobin-change : (g : Games) (pins : List Game) (change : Change) → IsDoubleRoundRobin g →
    Fits g pins change → IsDoubleRoundRobin (shifted g change)
IsDoubleRoundRobin-change g pins (Shift mv) robin fits = each_double_round_robin g mv robin fits.0
IsDoubleRoundRobin-change g pins (Pin game) robin fits = robin
IsDoubleRoundRobin-change g pins (Unpin game) robin fits = robin
IsDoubleRoundRobin-change g pins Undo robin fits = robin

IsDoubleRoundRobin-after : (g : Games) (pins : List Game) (changes : List Change) → IsDoubleRoundRobin g →
    Fit g pins changes → IsDoubleRoundRobin (games_after g changes)
unfolding games_after
IsDoubleRoundRobin-after g pins [] robin all = robin
IsDoubleRoundRobin-after g pins (change ∷ changes) robin all =
    IsDoubleRoundRobin-after (shifted g change) (pinned pins change) changes
    (IsDoubleRoundRobin-change g pins change robin all.0) all.1

pub IsSound-legal : (league : LeagueData) (room : ℕ) (h : List Entry) → IsLeague league → IsLegal league room h →
    IsSound league h
unfolding games_of
IsSound-legal league room h is legal =
    let all : FitFrom league (effective h) = FitFrom-legal league room h legal in
    record {
      robin = IsDoubleRoundRobin-after (start_of league) (kept_games league) (effective h) (round_robin_start league is) all;
      stand = AllStand-fit league h is all;
    }

-- the change that was the last in effect, by the games and the pins before it
pub record IsLastMade (league : LeagueData) (prefix : List Change) (change : Change) : Type 0 where
  pub robin : IsDoubleRoundRobin (games_after (start_of league) prefix)
  pub stand : AllStand (games_after (start_of league) prefix) (pins_after (kept_games league) prefix)
  pub fits : Fits (games_after (start_of league) prefix) (pins_after (kept_games league) prefix) change

Fit-prefix : (g : Games) (pins : List Game) (changes : List Change) (change : Change) → Fit g pins (changes ++ change ∷ []) →
    Fit g pins changes
Fit-prefix g pins [] change all = tt
Fit-prefix g pins (x ∷ changes) change all = (all.0, Fit-prefix (shifted g x) (pinned pins x) changes change all.1)

Fit-last : (g : Games) (pins : List Game) (changes : List Change) (change : Change) → Fit g pins (changes ++ change ∷ []) →
    Fits (games_after g changes) (pins_after pins changes) change
unfolding games_after pins_after
Fit-last g pins [] change all = all.0
Fit-last g pins (x ∷ changes) change all = Fit-last (shifted g x) (pinned pins x) changes change all.1

pub IsLastMade-legal : (league : LeagueData) (room : ℕ) (h : List Entry) (prefix : List Change) (change : Change) →
    IsLeague league → IsLegal league room h → effective h ≡ prefix ++ change ∷ [] → IsLastMade league prefix change
IsLastMade-legal league room h prefix change is legal last =
    let all : FitFrom league (prefix ++ change ∷ []) = subst (FitFrom league) last (FitFrom-legal league room h legal) in
    let before : FitFrom league prefix = Fit-prefix (start_of league) (kept_games league) prefix change all in
    record {
      robin = IsDoubleRoundRobin-after (start_of league) (kept_games league) prefix (round_robin_start league is) before;
      stand = AllStand-after (start_of league) (kept_games league) prefix (AllStand-kept league is) before;
      fits = Fit-last (start_of league) (kept_games league) prefix change all;
    }
