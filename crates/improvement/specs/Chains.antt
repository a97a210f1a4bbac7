-- The best schedule of each chain.
use Rattle.std.specs.Prelude.{ℕ, ◌==◌, Bool, List, [], ◌∷◌, if◌then◌else◌}
use Rattle.league.specs.League.{LeagueData}
use Rattle.fixture_board.specs.declared.change.Entry.{Entry}
use Rattle.fixture_board.specs.History.{best_prefix}
use Rattle.board_texts.specs.SearchText.{games_at_best}
use Rattle.improvement.specs.declared.chains.ChainBest.{ChainBest}
use Rattle.improvement.specs.Legs.{LegRun, improves, standing_of}

-- what a leg of a chain came to with this history: its cheapest feasible schedule, or its last one if none is feasible
abbrev pub reached : ℕ → LeagueData → List Entry → ChainBest
reached chain league h =
    record { chain = chain; standing = standing_of league h; schedule = games_at_best league h (best_prefix league h) }

-- the better one of a later and an earlier one, and the earlier one if they are as good
abbrev pub better : ChainBest → ChainBest → ChainBest
better later earlier = if improves later.standing earlier.standing then later else earlier

abbrev pub is_of : ℕ → ChainBest → Bool
is_of chain best = best.chain == chain

-- with what one more leg came to, which is compared with the best of its chain
abbrev pub offered : ChainBest → List ChainBest → List ChainBest
offered later [] = later ∷ []
offered later (best ∷ bests) = if is_of later.chain best then better later best ∷ bests else best ∷ offered later bests

-- the best schedule of each chain of these legs, in the order of their first legs
unfoldable pub chains_of : LeagueData → List LegRun → List ChainBest
chains_of league [] = []
chains_of league (run ∷ before) = offered (reached run.chain league run.history) (chains_of league before)
