-- What the tests of games stand for, and the cells of games.
use Rattle.std.proofs.Common.{◌≡◌, ℕ, ◌<◌, ◌≤◌, ◌⊎◌, inl, inr, Bool, true, false, ◌&&◌, eqb, List, refl, arith}
use Rattle.std.specs.Prelude.{count_by}
use Rattle.std.proofs.lemmas.Bool.Decides.{nat_tests}
use Rattle.league.specs.Limits.{max_rounds, max_teams}
use Rattle.fixtures.specs.declared.game.Cell.{Cell}
use Rattle.fixtures.specs.declared.game.Game.{Game}
use Rattle.fixtures.specs.Games.{Games, round_of, IsCell, IsPair}
use Rattle.fixtures.specs.Draft.{IsGame}
use Rattle.fixtures.specs.within.Draft.{game_of}
use Rattle.fixtures.proofs.ForCallers.{game_passes, pair_swapped}
use Rattle.schedule_texts.specs.declared.counted.Counted.{Counted}
use Rattle.schedule_texts.specs.declared.counted.Counted.TheVariants.{Rounds, Guests}
use Rattle.schedule_texts.specs.Faults.{games_in, games_of_pair, is_of_pair, is_of_team}
use Rattle.schedule_texts.specs.within.Faults.{count_in, number_of, numbers, takes}

pub pair_passes : (n home away : ℕ) (x : Game) → IsGame n x → x.home ≡ home → x.away ≡ away → is_of_pair n home away x ≡ true
pair_passes n home away x is e f = grind (arith, nat_tests, game_passes n x is)

pub pair_passed : (n home away : ℕ) (x : Game) → is_of_pair n home away x ≡ true → (x.home ≡ home) × (x.away ≡ away)
pair_passed n home away x passes = (grind (arith, nat_tests), grind (arith, nat_tests))

pub team_passes : (n team round : ℕ) (x : Game) → IsGame n x → x.round ≡ round → (x.home ≡ team) ⊎ (x.away ≡ team)
    → is_of_team n team round x ≡ true
team_passes n team round x is e either = grind (arith, nat_tests, game_passes n x is)

pub team_passed : (n team round : ℕ) (x : Game) → is_of_team n team round x ≡ true
    → (x.round ≡ round) × ((x.home ≡ team) ⊎ (x.away ≡ team))
team_passed n team round x passes = (grind (arith, nat_tests), grind (arith, nat_tests))

-- what places the counts have
pub number_below : (counted : Counted) (n team : ℕ) (x : Game) → n ≤ max_teams → takes counted n team x ≡ true
    → number_of counted x < max_rounds
number_below Rounds n team x most passes = grind (arith, nat_tests)
number_below Guests n team x most passes = grind (arith, nat_tests)

pub numbers_below : (counted : Counted) (n number : ℕ) → 4 ≤ n → n ≤ max_teams → number < numbers counted n → number < max_rounds
numbers_below Rounds n number least most below = omega (arith, below)
numbers_below Guests n number least most below = omega (arith, below)

pub count_is : (counted : Counted) (n : ℕ) (games : List Game) (team number : ℕ)
    → count_by (λ x. takes counted n team x && eqb (number_of counted x) number) games ≡ count_in counted n games team number
unfolding games_in games_of_pair
count_is Rounds n games team number = refl
count_is Guests n games team number = refl

pub has_team : (team round opponent : ℕ) (home : Bool)
    → let x = game_of team round (record { opponent = opponent; home = home }) in (x.home ≡ team) ⊎ (x.away ≡ team)
has_team team round opponent true = inl refl
has_team team round opponent false = inr refl

-- the cell of a team in the round of its game
pub cell_of_game : (g : Games) (x : Game) (team : ℕ) → IsPair g.teams x.home x.away → round_of g x.home x.away ≡ x.round
    → (x.home ≡ team) ⊎ (x.away ≡ team) → (c : Cell) × IsCell g team x.round c × (game_of team x.round c ≡ x)
cell_of_game g x team p kept (inl home) = (
  record { opponent = x.away; home = true },
  record { pair = rw (← home) p; in_round = rw (← home) kept },
  rw (← home) refl,
)
cell_of_game g x team p kept (inr away) = (
  record { opponent = x.home; home = false },
  record { pair = rw (← away) (pair_swapped g.teams x.home x.away p); in_round = rw (← away) kept },
  rw (← away) refl,
)
