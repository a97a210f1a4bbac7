-- The terms of a deviation that are above 0, each with its place. Teams and rounds are numbered from 0.
use Rattle.std.specs.Prelude.{◌≡◌, ℕ, zero, suc, ◌+◌, ◌-◌, ◌&&◌, ◌==◌, Bool, true, false, nat_lt, if◌then◌else◌}
use Rattle.std.specs.Prelude.{List, [], ◌∷◌, ◌++◌, sum_by}
use Rattle.league.specs.Sets.{has}
use Rattle.league.specs.Sums.{sum_where}
use Rattle.league.specs.declared.rule.RuleBody.{RuleBody}
use Rattle.league.specs.declared.rule.RuleBody.TheVariants.{Ca1, Ca2, Ca3, Ca4, Ga1, Br1, Br2, Se1, Fa2}
use Rattle.league.specs.declared.rule.Side.TheVariants.{Any}
use Rattle.fixtures.specs.Games.{Games, round_count}
use Rattle.rules.specs.Deviations.{over, games_of_team, games_in_window, games_in_round, listed_games_in, breaks, rounds_between}
use Rattle.rules.specs.Deviations.{gap, largest_below, worst_gap, deviation}
use Rattle.report_breaches.specs.declared.breach.Breach.{Breach}
use Rattle.report_breaches.specs.declared.breach.Place.{Place}
use Rattle.report_breaches.specs.declared.breach.Place.TheVariants.{GamesOf, BreaksOf, Window, Round, Together, GamesOver, GamesUnder, Pair, PairIn}

-- a breach at the place by so much, if that is above 0
abbrev pub breach_at : Place → ℕ → List Breach
breach_at place by = if by == 0 then [] else record { place = place; by = by } ∷ []

-- the breaches of the numbers below n, one after another
abbrev pub breaches_below : ℕ → (ℕ → List Breach) → List Breach
breaches_below zero breaches = []
breaches_below (suc n) breaches = breaches_below n breaches ++ breaches n

-- a breach for each number below n that passes a test, by its term
abbrev pub breaches_where : ℕ → (ℕ → Bool) → (ℕ → Place) → (ℕ → ℕ) → List Breach
breaches_where n test place term = breaches_below n (λ k. breach_at (place k) (if test k then term k else 0))

-- the windows of a team, each of so many consecutive rounds
abbrev pub window_at : ℕ → ℕ → ℕ → Place
window_at window team first = Window team first (first + window - 1)

-- the first number below n that has the largest value, or 0 if each has 0
unfoldable pub first_largest : ℕ → (ℕ → ℕ) → ℕ
first_largest zero value = 0
first_largest (suc n) value = if nat_lt (largest_below n value) (value n) then n else first_largest n value

-- the first of the slots with the worst gap of two teams
abbrev pub worst_round : Games → (ℕ → Bool) → ℕ → ℕ → ℕ → ℕ
worst_round g slots most i j = first_largest (round_count g.teams) (λ r. if slots r then gap g most i j r else 0)

-- two teams at the round of their worst gap
abbrev pub worst_at : Games → (ℕ → Bool) → ℕ → ℕ → ℕ → Place
worst_at g slots most high low = PairIn low high (worst_round g slots most low high)

-- the breaches of a rule: the terms of its deviation that are above 0, in the order of the sum
unfoldable pub breaches_of : Games → RuleBody → List Breach
breaches_of g (Ca1 teams side slots most) =
    breaches_where g.teams (has teams) GamesOf (λ t. over (games_of_team g side (λ _. true) (has slots) t) most)
breaches_of g (Ca2 teams1 side teams2 slots most) =
    breaches_where g.teams (has teams1) GamesOf (λ t. over (games_of_team g side (has teams2) (has slots) t) most)
breaches_of g (Ca3 teams1 side teams2 window most) =
    breaches_below g.teams (λ t.
    breaches_where (round_count g.teams + 1 - window) (λ _. has teams1 t) (window_at window t)
    (λ first. over (games_in_window g side (has teams2) window t first) most))
breaches_of g (Ca4 teams1 side teams2 slots false most) =
    breach_at Together (over (sum_where (round_count g.teams) (has slots) (games_in_round g side (has teams1) (has teams2))) most)
breaches_of g (Ca4 teams1 side teams2 slots true most) =
    breaches_where (round_count g.teams) (has slots) Round (λ r. over (games_in_round g side (has teams1) (has teams2) r) most)
breaches_of g (Ga1 games slots least most) =
    breach_at GamesOver (over (listed_games_in g (has slots) games) most) ++
    breach_at GamesUnder (over least (listed_games_in g (has slots) games))
breaches_of g (Br1 teams side slots most) =
    breaches_where g.teams (has teams) BreaksOf (λ t. over (breaks g t (has slots) side) most)
breaches_of g (Br2 teams slots most) =
    breach_at Together (over (sum_where g.teams (has teams) (λ t. breaks g t (has slots) Any)) most)
breaches_of g (Se1 teams least) =
    breaches_below g.teams (λ high.
    breaches_where high (λ low. has teams low && has teams high) (λ low. Pair low high)
    (λ low. over least (rounds_between g low high)))
breaches_of g (Fa2 teams slots most) =
    breaches_below g.teams (λ high.
    breaches_where high (λ low. has teams low && has teams high) (worst_at g (has slots) most high)
    (λ low. worst_gap g (has slots) most low high))

-- what the breaches are by, added up, is the deviation
abbrev pub AddsUp : Games → RuleBody → Type 0
AddsUp g body = sum_by (λ (breach : Breach). breach.by) (breaches_of g body) ≡ deviation g body
