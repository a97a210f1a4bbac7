-- Rules that a change around some teams leaves as they are: in it these teams play other games than before, and any
-- other team keeps its side and its opponent, but that it may meet another of these teams.
use Rattle.std.specs.Prelude.{ℕ, ◌&&◌, ◌||◌, not, Bool, List}
use Rattle.std.specs.List.{list_any}
use Rattle.league.specs.Limits.{max_teams}
use Rattle.league.specs.Sets.{has}
use Rattle.league.specs.Sums.{any_below}
use Rattle.league.specs.declared.rule.Pairing.{Pairing}
use Rattle.league.specs.declared.rule.RuleBody.{RuleBody}
use Rattle.league.specs.declared.rule.RuleBody.TheVariants.{Ca1, Ca2, Ca3, Ca4, Ga1, Br1, Br2, Se1, Fa2}
use Rattle.rules.specs.Touches.{has_touched_team}

-- whether one of the set isn't one of the teams
unfoldable pub has_team_outside : ℕ → (ℕ → Bool) → Bool
has_team_outside set teams = any_below max_teams (λ t. has set t && not (teams t))

-- whether a team of one of the games is in the set
unfoldable pub has_game_of : List Pairing → (ℕ → Bool) → Bool
has_game_of games teams = list_any (λ (game : Pairing). teams game.home || teams game.away) games

-- whether the opponents have all of the teams, or none of them
unfoldable pub takes_all_or_none : ℕ → ℕ → Bool
takes_all_or_none teams opponents =
    not (has_touched_team teams (has opponents)) || not (has_team_outside teams (has opponents))

unfoldable pub looks_past : ℕ → RuleBody → Bool
looks_past teams (Ca1 t side slots most) = not (has_touched_team t (has teams))
looks_past teams (Ca2 t side opponents slots most) =
    not (has_touched_team t (has teams)) && takes_all_or_none teams opponents
looks_past teams (Ca3 t side opponents window most) =
    not (has_touched_team t (has teams)) && takes_all_or_none teams opponents
looks_past teams (Ca4 t side opponents slots each most) =
    not (has_touched_team t (has teams)) && takes_all_or_none teams opponents
looks_past teams (Br1 t side slots most) = not (has_touched_team t (has teams))
looks_past teams (Br2 t slots most) = not (has_touched_team t (has teams))
looks_past teams (Ga1 games slots least most) = not (has_game_of games (has teams))
looks_past teams (Se1 t least) = not (has_touched_team t (has teams))
looks_past teams (Fa2 t slots most) = not (has_touched_team t (has teams))
