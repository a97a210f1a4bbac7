-- Which games breaches name, as a set of rounds for each team.
use Rattle.std.specs.Prelude.{◌≡◌, ℕ, ◌<◌, ◌==◌, ◌||◌, Bool, true, false, List, slice_index}
use Rattle.league.specs.League.{LeagueData}
use Rattle.league.specs.Sets.{has}
use Rattle.league.specs.declared.rule.RuleBody.{RuleBody}
use Rattle.league.specs.declared.rule.RuleBody.TheVariants.{Ga1, Br2}
use Rattle.report_breaches.specs.declared.breach.Place.{Place}
use Rattle.report_breaches.specs.declared.breach.Place.TheVariants.{GamesOf, BreaksOf, Window, Round, Together, GamesOver, GamesUnder, Pair, PairIn}
use Rattle.fixtures.specs.Games.{Games, round_count}
use Rattle.report_page.specs.Grid.{breaks_rule}

abbrev pub has_game : List ℕ → ℕ → ℕ → Bool
has_game rounds team round = has (slice_index rounds team) round

-- the games in breaches are these
abbrev pub AreBroken : LeagueData → Games → List ℕ → Type 0
AreBroken l g rounds =
    (team round : ℕ) → team < g.teams → round < round_count g.teams → has_game rounds team round ≡ breaks_rule l g team round

-- whether games of a team are at a place
abbrev pub is_of : Place → ℕ → Bool
is_of (GamesOf of) team = team == of
is_of (BreaksOf of) team = team == of
is_of (Window of first last) team = team == of
is_of (Round round) team = true
is_of Together team = true
is_of GamesOver team = true
is_of GamesUnder team = true
is_of (Pair low high) team = team == low || team == high
is_of (PairIn low high round) team = false

-- whether a breach at a place can name a game of a team: those of GA1 and BR2 name games wherever they are
abbrev pub may_name : RuleBody → Place → ℕ → Bool
may_name (Ga1 games slots least most) place team = true
may_name (Br2 teams slots most) place team = true
may_name other place team = is_of place team
