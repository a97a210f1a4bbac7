-- Where the boards of a league begin: the schedule, the games of it that are kept, and what leaving it costs.
use Rattle.std.specs.Prelude.{◌≡◌, ℕ, ◌≤◌, true, List, length}
use Rattle.fixtures.specs.Berger.{berger_round, fide_round}
use Rattle.fixtures.specs.Games.{round_of, IsDoubleRoundRobin, IsPair}
use Rattle.sets.specs.Limits.{max_teams}
use Rattle.sets.specs.Pairs.{has_pair, no_pairs}
use Rattle.league.specs.declared.origins.Start.{Start}
use Rattle.league.specs.declared.origins.Start.TheVariants.{Berger, Fide, Given}
use Rattle.league.specs.Limits.{max_weight}

pub record OriginData : Type 0 where
  pub start : Start
  -- for each home team those whose visit keeps its round
  pub kept : List ℕ
  -- what a game costs that has another round than at the start
  pub near : ℕ

abbrev pub origin_data : Start → List ℕ → ℕ → OriginData
origin_data start kept near = record { start = start; kept = kept; near = near }

-- at a start, with nothing kept and no price
abbrev pub origin_at : Start → OriginData
origin_at start = origin_data start no_pairs 0

-- the round in which `home` receives `away` at the start of n teams
abbrev pub round_at_start : ℕ → Start → ℕ → ℕ → ℕ
round_at_start n Berger home away = berger_round n home away
round_at_start n Fide home away = fide_round n home away
round_at_start n (Given g) home away = round_of g home away

-- a given schedule is a double round robin of n teams
abbrev pub IsStartFor : ℕ → Start → Type 0
IsStartFor n Berger = Unit {0}
IsStartFor n Fide = Unit {0}
IsStartFor n (Given g) = IsDoubleRoundRobin g × (g.teams ≡ n)

pub record IsOriginFor (n : ℕ) (origin : OriginData) : Type 0 where
  pub start : IsStartFor n origin.start
  pub rows : length origin.kept ≡ max_teams
  pub kept : (home away : ℕ) → has_pair origin.kept home away ≡ true → IsPair n home away
  pub near : origin.near ≤ max_weight
