-- Which games a breach names: cells, each of a team and a round, which are numbered from 0.
use Rattle.std.specs.Prelude.{ℕ, ◌==◌, ◌&&◌, ◌||◌, Bool, true, false, nat_le, List}
use Rattle.std.specs.List.{list_any}
use Rattle.league.specs.Sets.{has}
use Rattle.league.specs.declared.rule.Pairing.{Pairing}
use Rattle.league.specs.declared.rule.RuleBody.{RuleBody}
use Rattle.league.specs.declared.rule.RuleBody.TheVariants.{Ca1, Ca2, Ca3, Ca4, Ga1, Br1, Br2, Se1, Fa2}
use Rattle.league.specs.declared.rule.Side.TheVariants.{Any}
use Rattle.fixtures.specs.Games.{Games, round_of, cell}
use Rattle.rules.specs.Deviations.{is_counted, is_break}
use Rattle.report_breaches.specs.declared.breach.Breach.{Breach}
use Rattle.report_breaches.specs.declared.breach.Place.{Place}
use Rattle.report_breaches.specs.declared.breach.Place.TheVariants.{GamesOf, BreaksOf, Window, Round, Together, GamesOver, GamesUnder, Pair, PairIn}
use Rattle.report_breaches.specs.Breaches.{breaches_of}

-- whether two teams are these, in either order
abbrev pub are_these : ℕ → ℕ → ℕ → ℕ → Bool
are_these low high team other = (team == low && other == high) || (team == high && other == low)

-- whether a team's game in a round, against this opponent, is at the place
abbrev pub is_at : Place → ℕ → ℕ → ℕ → Bool
is_at (GamesOf of) team opponent round = team == of
is_at (BreaksOf of) team opponent round = team == of
is_at (Window of first last) team opponent round = team == of && nat_le first round && nat_le round last
is_at (Round in_round) team opponent round = round == in_round
is_at Together team opponent round = true
is_at GamesOver team opponent round = true
is_at GamesUnder team opponent round = true
is_at (Pair low high) team opponent round = are_these low high team opponent
is_at (PairIn low high in_round) team opponent round = false

-- whether a team's game in a round is there
abbrev pub is_there : Games → Place → ℕ → ℕ → Bool
is_there g place team round = is_at place team (cell g team round).opponent round

-- whether games lack in the slots at the place
abbrev pub lacks_games : Place → Bool
lacks_games GamesUnder = true
lacks_games place = false

-- whether a team's game in a round is listed
abbrev pub is_listed : Games → List Pairing → ℕ → ℕ → Bool
is_listed g games team round =
    list_any (λ (game : Pairing). are_these game.home game.away team (cell g team round).opponent &&
    round_of g game.home game.away == round) games

-- whether a breach of the rule at the place names a team's game in a round: it counts there, or it is listed and counts or lacks
unfoldable pub names_cell : Games → RuleBody → Place → ℕ → ℕ → Bool
names_cell g (Ca1 teams side slots most) place team round =
    is_there g place team round && (has slots round && is_counted g side (λ _. true) team round)
names_cell g (Ca2 teams1 side teams2 slots most) place team round =
    is_there g place team round && (has slots round && is_counted g side (has teams2) team round)
names_cell g (Ca3 teams1 side teams2 window most) place team round =
    is_there g place team round && is_counted g side (has teams2) team round
names_cell g (Ca4 teams1 side teams2 slots each most) place team round =
    is_there g place team round && (has slots round && (has teams1 team && is_counted g side (has teams2) team round))
names_cell g (Ga1 games slots least most) place team round =
    is_listed g games team round && (lacks_games place || has slots round)
names_cell g (Br1 teams side slots most) place team round =
    is_there g place team round && (has slots round && is_break g side team round)
names_cell g (Br2 teams slots most) place team round = has teams team && (has slots round && is_break g Any team round)
names_cell g (Se1 teams least) place team round = is_there g place team round
names_cell g (Fa2 teams slots most) place team round = false

abbrev pub names : Games → RuleBody → ℕ → ℕ → Breach → Bool
names g body team round breach = names_cell g body breach.place team round

-- whether a breach of the rule names a team's game in a round
unfoldable pub is_marked : Games → RuleBody → ℕ → ℕ → Bool
is_marked g body team round = list_any (names g body team round) (breaches_of g body)
