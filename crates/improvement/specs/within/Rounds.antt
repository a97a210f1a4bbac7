-- The rounds that a move may name.
use Rattle.std.specs.Prelude.{ℕ, zero, suc, Bool, true, ◌&&◌, if◌then◌else◌, List, [], ◌∷◌, ◌++◌}
use Rattle.league.specs.League.{LeagueData}
use Rattle.league.specs.Starts.{keeps}
use Rattle.fixtures.specs.Games.{Games, cell, round_count}
use Rattle.draws.specs.Draws.{each_round}

-- whether the game of a team in a round is kept
abbrev pub is_kept : LeagueData → Games → ℕ → ℕ → Bool
is_kept league g round team =
    let c = cell g team round in if c.home then keeps league team c.opponent else keeps league c.opponent team

-- whether those of all teams below m are
unfoldable pub are_kept_below : LeagueData → Games → ℕ → ℕ → Bool
are_kept_below league g round zero = true
are_kept_below league g round (suc m) = are_kept_below league g round m && is_kept league g round m

-- whether each game of a round is kept
abbrev pub is_kept_whole : LeagueData → Games → ℕ → Bool
is_kept_whole league g round = are_kept_below league g round g.teams

-- the rounds below m that are not kept whole
unfoldable pub free_below : LeagueData → Games → ℕ → List ℕ
free_below league g zero = []
free_below league g (suc m) = free_below league g m ++ (if is_kept_whole league g m then [] else m ∷ [])

-- these rounds of n teams, or all if there are none
abbrev pub rounds_or_all : ℕ → List ℕ → List ℕ
rounds_or_all n [] = each_round n
rounds_or_all n (round ∷ rounds) = round ∷ rounds

-- the rounds that are not kept whole, or all if each is
abbrev pub free_rounds : LeagueData → Games → List ℕ
free_rounds league g = rounds_or_all g.teams (free_below league g (round_count g.teams))
