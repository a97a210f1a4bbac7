-- What is predicted of each game, where it differs at most at games that have one of two teams.
use Rattle.std.proofs.Common.{◌≡◌, ℕ, ◌+◌, ◌<◌, true, inl, inr, refl, sym, ◌∙◌, arith}
use Rattle.std.specs.Prelude.{if◌then◌else◌}
use Rattle.std.proofs.lemmas.Bool.{cases_Bool}
use Rattle.std.proofs.lemmas.Bool.Decides.{nat_tests}
use Rattle.league.specs.Sums.{sum_below, sum_where}
use Rattle.league.proofs.ForCallers.{sum_below_add, sum_below_balance}
use Rattle.fixtures.specs.Games.{IsPair}
use Rattle.fixtures.specs.within.Edits.{is_either}
use Rattle.tours.proofs.balances.Balances.{where_balance}
use Rattle.tours.proofs.exchanged_legs.TeamsDelta.{of_either}

-- the sum over the games at home and over those away
abbrev pub around : ℕ → (ℕ → ℕ → ℕ) → ℕ → ℕ
around n f t = sum_below n (f t) + sum_below n (λ h. f h t)

abbrev part : ℕ → ℕ → ℕ → (ℕ → ℕ → ℕ) → ℕ → ℕ
part n i j f h = (if is_either i j h then sum_below n (f h) else 0) + (f h j + f h i)

part_sum : (n i j : ℕ) (f : ℕ → ℕ → ℕ) → IsPair n i j → sum_below n (part n i j f) ≡ around n f j + around n f i
part_sum n i j f p =
    omega (
      arith,
      sum_below_add n (λ h. if is_either i j h then sum_below n (f h) else 0) (λ h. f h j + f h i),
      of_either n i j (λ h. sum_below n (f h)) p,
      sum_below_add n (λ h. f h j) (λ h. f h i),
    )

module _ (n i j : ℕ) (new old : ℕ → ℕ → ℕ) (p : IsPair n i j)
    (stays : (h a : ℕ) → h < n → a < n → is_either i j h ≡ is_either i j a → new h a ≡ old h a) where
  first_of : is_either i j i ≡ true
  first_of = grind (arith, nat_tests)

  second_of : is_either i j j ≡ true
  second_of = grind (arith, nat_tests)

  row : (h : ℕ) → h < n → sum_below n (new h) + part n i j old h ≡ sum_below n (old h) + part n i j new h
  row h in_h = elim (cases_Bool (is_either i j h)) [
    | inl is ↦
        let of_i : new h i ≡ old h i = stays h i in_h p.home_in (is ∙ sym first_of) in
        let of_j : new h j ≡ old h j = stays h j in_h p.away_in (is ∙ sym second_of) in
        rw (is, of_i, of_j) (omega arith)
    | inr out ↦
        let games : sum_below n (new h) + sum_where n (is_either i j) (old h) ≡
        sum_below n (old h) + sum_where n (is_either i j) (new h) =
        sum_below_balance n (new h) (old h) (λ a. if is_either i j a then new h a else 0) (λ a. if is_either i j a then old h a else 0)
        (λ a in_a. where_balance (is_either i j a) (is_either i j a) (new h a) (old h a) (new h a) (old h a) refl
        (λ is. omega arith) (λ not_a. stays h a in_h in_a (out ∙ sym not_a))) in
        rw out (omega (arith, games, of_either n i j (old h) p, of_either n i j (new h) p))
  ]

  pub two_teams : sum_below n (λ h. sum_below n (new h)) + (around n old j + around n old i) ≡
      sum_below n (λ h. sum_below n (old h)) + (around n new j + around n new i)
  two_teams =
      omega (
        arith,
        sum_below_balance n (λ h. sum_below n (new h)) (λ h. sum_below n (old h)) (part n i j new) (part n i j old) row,
        part_sum n i j old p,
        part_sum n i j new p,
      )
