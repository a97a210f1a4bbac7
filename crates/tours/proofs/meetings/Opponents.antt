-- In each round the teams of a double round robin go in pairs.
use Rattle.std.proofs.Common.{◌≡◌, ℕ, ◌<◌, Bool, true, false, not, sym, ap}
use Rattle.fixtures.specs.declared.game.Cell.{Cell}
use Rattle.fixtures.specs.Games.{Games, round_count, cell, IsCell, IsDoubleRoundRobin}
use Rattle.fixtures.proofs.ForCallers.{pair_swapped, cell_is, is_cell}
use Rattle.tours.proofs.meetings.Partners.{IsPairing}

abbrev pub opponent_in : Games → ℕ → ℕ → ℕ
opponent_in g r t = (cell g t r).opponent

-- the opponent's cell
back : (g : Games) (rr : IsDoubleRoundRobin g) (t r o : ℕ) (home : Bool) → IsCell g t r (record { opponent = o; home = home }) →
    cell g o r ≡ record { opponent = t; home = not home }
back g rr t r o true is =
    cell_is g rr o r (record { opponent = t; home = false }) (record { pair = pair_swapped g.teams t o is.pair; in_round = is.in_round })
back g rr t r o false is =
    cell_is g rr o r (record { opponent = t; home = true }) (record { pair = pair_swapped g.teams t o is.pair; in_round = is.in_round })

cell_of_opponent : (g : Games) → IsDoubleRoundRobin g → (t r : ℕ) → t < g.teams → r < round_count g.teams →
    cell g (opponent_in g r t) r ≡ record { opponent = t; home = not (cell g t r).home }
cell_of_opponent g rr t r in_t in_r = back g rr t r (cell g t r).opponent (cell g t r).home (is_cell g rr t r in_t in_r)

pub side_of_opponent : (g : Games) → IsDoubleRoundRobin g → (t r : ℕ) → t < g.teams → r < round_count g.teams →
    (cell g (opponent_in g r t) r).home ≡ not (cell g t r).home
side_of_opponent g rr t r in_t in_r = ap (λ (c : Cell). c.home) (cell_of_opponent g rr t r in_t in_r)

pub IsPairing-opponents : (g : Games) → IsDoubleRoundRobin g → (r : ℕ) → r < round_count g.teams → IsPairing g.teams (opponent_in g r)
IsPairing-opponents g rr r in_r = record {
  partners = record {
    in_range = λ t in_t. (is_cell g rr t r in_t in_r).pair.away_in;
    back = λ t in_t. ap (λ (c : Cell). c.opponent) (cell_of_opponent g rr t r in_t in_r);
  };
  apart = λ t in_t is. (is_cell g rr t r in_t in_r).pair.distinct (sym is);
}
