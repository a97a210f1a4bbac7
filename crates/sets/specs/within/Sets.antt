-- What private functions alone need beside specs/Sets.antt.
use Rattle.std.specs.Prelude.{◌≡◌, ℕ, ◌<◌, ◌==◌, ◌&&◌, not, true, false, Option, MatchOption}
use Rattle.sets.specs.Sets.{has}

-- the set is another with its lowest number taken out
pub record IsWithoutLowest (set lowest rest : ℕ) : Type 0 where
  pub in_set : has set lowest ≡ true
  pub is_lowest : (k : ℕ) → k < lowest → has set k ≡ false
  pub others : (k : ℕ) → has rest k ≡ (has set k && not (k == lowest))
  pub fewer : rest < set

-- takes the lowest number out of a set, if there is one
abbrev pub TakesLowest : ℕ → Option ℕ → ℕ → Type 0
TakesLowest set taken rest = MatchOption taken ((set ≡ 0) × (rest ≡ 0)) (λ lowest. IsWithoutLowest set lowest rest)
