-- The moves that a generator's stream stands for, each number by the method of `rand` (Canon's method).
use Rattle.std.specs.Prelude.{ℕ, ◌^◌, ◌<◌, ◌≤◌, List, [], ◌∷◌, length, slice_index, slice_index_or, All}
use Rattle.std.specs.List.{range_with_len}
use Rattle.rand_core.specs.Stream.{Stream, next_u32}
use Rattle.rand_core.specs.Steps.{stream_of, steps_u32}
use Rattle.rand_pcg.specs.Lcg.{Lcg}
use Rattle.rand_pcg.specs.Pcg.{pcg32}
use Rattle.rand.specs.Uniform.{canon}
use Rattle.league.specs.Limits.{max_teams, max_rounds}
use Rattle.fixtures.specs.Games.{round_count}
use Rattle.moves.specs.declared.moves.Move.{Move}
use Rattle.moves.specs.declared.moves.Move.TheVariants.{Homes, Rounds, Teams, PartRounds, PartTeams}
use Rattle.moves.specs.declared.moves.MoveKind.{MoveKind}
use Rattle.moves.specs.declared.moves.MoveKind.TheVariants as kinds

-- all that the generator will answer from now on
abbrev pub stream_of_generator : Lcg → Stream
stream_of_generator = stream_of (steps_u32 pcg32)

-- a number below m, as a range is read from 32-bit words, and the stream that is left
abbrev pub number : ℕ → Stream → ℕ × Stream
number m = canon (2 ^ 32) next_u32 m

-- one of the rounds
abbrev pub one_of : List ℕ → Stream → ℕ × Stream
one_of rounds s = let x = number (length rounds) s in (slice_index rounds x.0, x.1)

-- two numbers in a row, each drawn in its way
abbrev pub two : (a b : Stream → ℕ × Stream) → (ℕ → ℕ → Move) → Stream → Move × Stream
two a b make s = let x = a s in let y = b x.1 in (make x.0 y.0, y.1)

-- three numbers in a row
abbrev pub three : (a b c : Stream → ℕ × Stream) → (ℕ → ℕ → ℕ → Move) → Stream → Move × Stream
three a b c make s = let x = a s in let y = b x.1 in let z = c y.1 in (make x.0 y.0 z.0, z.1)

-- the fields of a move of each kind, with n teams and these rounds
abbrev pub of_kind : ℕ → List ℕ → MoveKind → Stream → Move × Stream
of_kind n rounds kinds.Homes = two (number n) (number n) Homes
of_kind n rounds kinds.Rounds = two (one_of rounds) (one_of rounds) Rounds
of_kind n rounds kinds.Teams = two (number n) (number n) Teams
of_kind n rounds kinds.PartRounds = three (number n) (one_of rounds) (one_of rounds) PartRounds
of_kind n rounds kinds.PartTeams = three (number n) (number n) (one_of rounds) PartTeams

-- the next move for n teams, of one of these kinds and in these rounds, and the stream that is left: a kind, and then the
-- fields of that kind
abbrev pub drawn_among : ℕ → List MoveKind → List ℕ → Stream → Move × Stream
drawn_among n among rounds s =
    let kind = number (length among) s in of_kind n rounds (slice_index_or among kind.0 kinds.Homes) kind.1

-- the five kinds, in the order of `Move`
abbrev pub each_kind : List MoveKind
each_kind = kinds.Homes ∷ kinds.Rounds ∷ kinds.Teams ∷ kinds.PartRounds ∷ kinds.PartTeams ∷ []

-- all rounds of n teams
abbrev pub each_round : ℕ → List ℕ
each_round n = range_with_len 0 (round_count n)

-- the next move for n teams, of any kind and in any rounds
abbrev pub drawn_move : ℕ → Stream → Move × Stream
drawn_move n s = drawn_among n each_kind (each_round n) s

-- some rounds of a season of n teams, one at least
pub record AreRoundsOf (n : ℕ) (rounds : List ℕ) : Type 0 where
  pub some : 1 ≤ length rounds
  pub few : length rounds ≤ max_rounds
  pub in_season : All (λ r. r < round_count n) rounds

-- moves for n teams can be drawn of these kinds, in these rounds
pub record CanDraw (n : ℕ) (among : List MoveKind) (rounds : List ℕ) : Type 0 where
  pub two : 2 ≤ n
  pub most : n ≤ max_teams
  pub some_kind : 1 ≤ length among
  pub few_kinds : length among < 2 ^ 8
  pub rounds_are : AreRoundsOf n rounds

-- the numbers of a move are in range, with n teams and r rounds
abbrev pub IsInRange : ℕ → ℕ → Move → Type 0
IsInRange n r (Homes i j) = (i < n) × (j < n)
IsInRange n r (Rounds k l) = (k < r) × (l < r)
IsInRange n r (Teams i j) = (i < n) × (j < n)
IsInRange n r (PartRounds i k l) = (i < n) × (k < r) × (l < r)
IsInRange n r (PartTeams i j k) = (i < n) × (j < n) × (k < r)
