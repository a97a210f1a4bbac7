-- Which rules a change of some cells can touch: cells of the teams of one test in the rounds of another.
use Rattle.std.specs.Prelude.{ℕ, ◌+◌, ◌-◌, ◌&&◌, ◌||◌, ◌==◌, not, Bool, List}
use Rattle.std.specs.List.{list_any}
use Rattle.league.specs.Limits.{max_teams, max_rounds}
use Rattle.league.specs.Sets.{has}
use Rattle.league.specs.Sums.{any_below}
use Rattle.league.specs.declared.rule.Pairing.{Pairing}
use Rattle.league.specs.declared.rule.RuleBody.{RuleBody}
use Rattle.league.specs.declared.rule.RuleBody.TheVariants.{Ca1, Ca2, Ca3, Ca4, Ga1, Br1, Br2, Se1, Fa2}

-- whether one of the teams is touched
unfoldable pub has_touched_team : ℕ → (ℕ → Bool) → Bool
has_touched_team teams touched = any_below max_teams (λ t. has teams t && touched t)

-- whether one of the slots is touched
unfoldable pub has_touched_slot : ℕ → (ℕ → Bool) → Bool
has_touched_slot slots touched = any_below max_rounds (λ r. has slots r && touched r)

-- whether any round is touched
unfoldable pub has_touched_round : (ℕ → Bool) → Bool
has_touched_round touched = any_below max_rounds touched

-- whether the home team of one of the games is touched
unfoldable pub has_touched_game : List Pairing → (ℕ → Bool) → Bool
has_touched_game games touched = list_any (λ (game : Pairing). touched game.home) games

-- whether a round up to one of the slots is touched
unfoldable pub has_touched_until : ℕ → (ℕ → Bool) → Bool
has_touched_until slots touched = any_below max_rounds (λ r. has slots r && any_below (r + 1) touched)

-- a round, or the one before it, as a break is one of two rounds
abbrev pub or_before : (ℕ → Bool) → ℕ → Bool
or_before touched r = touched r || (not (r == 0) && touched (r - 1))

-- whether the rule looks at games of the teams: of a list of games at those of the home teams
unfoldable pub looks_at_team : RuleBody → (ℕ → Bool) → Bool
looks_at_team (Ca1 teams side slots most) in_teams = has_touched_team teams in_teams
looks_at_team (Ca2 teams1 side teams2 slots most) in_teams = has_touched_team teams1 in_teams
looks_at_team (Ca3 teams1 side teams2 window most) in_teams = has_touched_team teams1 in_teams
looks_at_team (Ca4 teams1 side teams2 slots each most) in_teams = has_touched_team teams1 in_teams
looks_at_team (Ga1 games slots least most) in_teams = has_touched_game games in_teams
looks_at_team (Br1 teams side slots most) in_teams = has_touched_team teams in_teams
looks_at_team (Br2 teams slots most) in_teams = has_touched_team teams in_teams
looks_at_team (Se1 teams least) in_teams = has_touched_team teams in_teams
looks_at_team (Fa2 teams slots most) in_teams = has_touched_team teams in_teams

-- whether the rule looks at one of the rounds
unfoldable pub looks_at_round : RuleBody → (ℕ → Bool) → Bool
looks_at_round (Ca1 teams side slots most) rounds = has_touched_slot slots rounds
looks_at_round (Ca2 teams1 side teams2 slots most) rounds = has_touched_slot slots rounds
looks_at_round (Ca3 teams1 side teams2 window most) rounds = has_touched_round rounds
looks_at_round (Ca4 teams1 side teams2 slots each most) rounds = has_touched_slot slots rounds
looks_at_round (Ga1 games slots least most) rounds = has_touched_slot slots rounds
looks_at_round (Br1 teams side slots most) rounds = has_touched_slot slots (or_before rounds)
looks_at_round (Br2 teams slots most) rounds = has_touched_slot slots (or_before rounds)
looks_at_round (Se1 teams least) rounds = has_touched_round rounds
looks_at_round (Fa2 teams slots most) rounds = has_touched_until slots rounds

-- whether the rule looks at one of the teams in one of the rounds
unfoldable pub touches : RuleBody → (ℕ → Bool) → (ℕ → Bool) → Bool
touches body in_teams in_rounds = looks_at_team body in_teams && looks_at_round body in_rounds
