-- The tests of which rules look past teams, as what is true of each team.
use Rattle.std.proofs.Common.{◌≡◌, ℕ, ◌<◌, ◌&&◌, ◌||◌, not, Bool, true, false, List, [], ◌∷◌, inl, inr, refl, sym, ◌∙◌}
use Rattle.std.specs.List.{AllByRecursion, list_any}
use Rattle.std.proofs.lemmas.Bool.{false≢true, and_cases, or_cases, or_parts, not-true}
use Rattle.league.specs.Limits.{max_teams}
use Rattle.league.specs.Sets.{has}
use Rattle.league.specs.Sums.{any_below}
use Rattle.league.proofs.ForCallers.{any_below_fails}
use Rattle.league.specs.declared.rule.Pairing.{Pairing}
use Rattle.rules.specs.Touches.{has_touched_team}
use Rattle.rules.specs.LooksPast.{has_team_outside, has_game_of, takes_all_or_none}

-- no team passes both
abbrev pub AreApart : (ℕ → Bool) → (ℕ → Bool) → Type 0
AreApart p q = (t : ℕ) → t < max_teams → p t ≡ true → q t ≡ false

-- the opponents have all of the teams, or none of them: to meet another of the teams makes no difference
abbrev pub TakesAllOrNone : (ℕ → Bool) → (ℕ → Bool) → Type 0
TakesAllOrNone teams opponents =
    (t u : ℕ) → t < max_teams → u < max_teams → teams t ≡ true → teams u ≡ true → opponents t ≡ opponents u

-- no number of the set passes
none_passes : (set : ℕ) (test : ℕ → Bool) → any_below max_teams (λ t. has set t && test t) ≡ false → (t : ℕ) → t < max_teams → has set t ≡ true →
    test t ≡ false
none_passes set test none t below is =
    other_fails (has set t) (test t) (any_below_fails max_teams (λ t. has set t && test t) none t below) is
  where
    other_fails : (p q : Bool) → (p && q) ≡ false → p ≡ true → q ≡ false
    other_fails p q fails passes = elim (and_cases p q fails) [
      | inl fails_here ↦ absurd (false≢true (sym fails_here ∙ passes))
      | inr fails_there ↦ fails_there
    ]

pub AreApart-tested : (own teams : ℕ) → not (has_touched_team own (has teams)) ≡ true → AreApart (has own) (has teams)
unfolding has_touched_team
AreApart-tested own teams apart = none_passes own (has teams) (not-true _ apart)

pub TakesAllOrNone-tested : (teams opponents : ℕ) → takes_all_or_none teams opponents ≡ true → TakesAllOrNone (has teams) (has opponents)
unfolding takes_all_or_none has_touched_team has_team_outside
TakesAllOrNone-tested teams opponents tested t u in_t in_u team other = elim (or_cases _ _ tested) [
  | inl none ↦
      let fails = none_passes teams (has opponents) (not-true _ none) in
      fails t in_t team ∙ sym (fails u in_u other)
  | inr all ↦
      let fails = none_passes teams (λ k. not (has opponents k)) (not-true _ all) in
      not_false _ (fails t in_t team) ∙ sym (not_false _ (fails u in_u other))
]
  where
    not_false : (b : Bool) → not b ≡ false → b ≡ true
    not_false true fails = refl
    not_false false fails = sym fails

pub others-tested : (teams : ℕ) (games : List Pairing) → has_game_of games (has teams) ≡ false →
    AllByRecursion (λ (game : Pairing). (has teams game.home ≡ false) × (has teams game.away ≡ false)) games
unfolding has_game_of
others-tested teams [] none = tt
others-tested teams (game ∷ games) none =
    let parts =
    or_parts (has teams game.home || has teams game.away)
    (list_any (λ (game : Pairing). has teams game.home || has teams game.away) games) none in
    (or_parts (has teams game.home) (has teams game.away) parts.0, others-tested teams games parts.1)
