use Rattle.std.proofs.Common.{◌≡◌, ℕ, false, replicate, sym, subst}
use Rattle.league.specs.Limits.{max_teams}
use Rattle.league.specs.Pairs.{has_pair, no_pairs}
use Rattle.league.proofs.ForCallers.{has_no_pairs}
use Rattle.report_page.specs.within.BrokenGames.{has_game}
use Rattle.report_page.proofs.broken_games.BrokenGames.none.Goals as goal

-- a team in no pair has no round
none_there : (t r : ℕ) → has_game no_pairs t r ≡ false
unfolding has_pair
none_there t r = has_no_pairs t r

pub returns : goal.returns
returns c = λ t r.
    subst (λ (row : ℕ). has_game (replicate max_teams row) t r ≡ false) (sym c.empty.ensures.value) (none_there t r)
