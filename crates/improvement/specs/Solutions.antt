-- The schedules that an improvement writes.
use Rattle.std.specs.Prelude.{ℕ, nat_lt, if◌then◌else◌, Bool, true, List, [], ◌∷◌, Option, Some, None, option_map}
use Rattle.std.specs.List.{cons_option}
use Rattle.league.specs.League.{LeagueData}
use Rattle.fixtures.specs.Games.{Games}
use Rattle.fixture_board.specs.declared.change.Entry.{Entry}
use Rattle.fixture_board.specs.History.{best_prefix}
use Rattle.board_texts.specs.SearchText.{games_at_best}
use Rattle.improvement.specs.Legs.{LegRun, least_in, least_reported}

-- a schedule that is written, and the total behind it
pub record Solution : Type 0 where
  pub games : Games
  pub total : ℕ

-- the best schedule of a history, with this total
abbrev pub best_with : LeagueData → List Entry → ℕ → Solution
best_with league h total = record { games = games_at_best league h (best_prefix league h); total = total }

-- the best schedule of a history, if a version of it is feasible
abbrev pub best_solution : LeagueData → List Entry → Option Solution
best_solution league h = option_map (best_with league h) (least_in league h)

-- whether the total is below the least before, or is the first
abbrev pub is_below : ℕ → Option ℕ → Bool
is_below total None = true
is_below total (Some least) = nat_lt total least

-- a solution whose total is below the least before
abbrev pub below : Option ℕ → Option Solution → Option Solution
below least None = None
below least (Some s) = if is_below s.total least then Some s else None

-- what is written of these legs, the newest first: the best schedule of each whose total is below all before
unfoldable pub solutions_of : LeagueData → List LegRun → List Solution
solutions_of league [] = []
solutions_of league (run ∷ before) =
    cons_option (below (least_reported league before) (best_solution league run.history)) (solutions_of league before)
