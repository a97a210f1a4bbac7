-- A history stays legal in every room that it fits.
use Rattle.std.proofs.Common.{ℕ, ◌<◌, ◌≤◌, length, List, [], ◌∷◌, ◌++◌, subst, sym, append_assoc, arith}
use Rattle.std.proofs.lemmas.List.{length-append}
use Rattle.league.specs.League.{LeagueData}
use Rattle.fixture_board.specs.declared.change.Entry.{Entry}
use Rattle.fixture_board.specs.History.{legal_after, IsLegal}

shorter : (before h : List Entry) (e : Entry) (room : ℕ) → length (before ++ e ∷ h) ≤ room → length before < room
shorter before h e room fits = omega (arith, length-append before (e ∷ h))

legal_in : (league : LeagueData) (room other : ℕ) (before h : List Entry) → length (before ++ h) ≤ other →
    legal_after league room before h → legal_after league other before h
legal_in league room other before [] fits legal = tt
legal_in league room other before (e ∷ h) fits legal = (
  (shorter before h e other fits, legal.0.1),
  legal_in league room other (before ++ e ∷ []) h (subst (λ all. length all ≤ other) (sym (append_assoc before (e ∷ []) h)) fits) legal.1,
)

pub IsLegal-fits : (league : LeagueData) (room other : ℕ) (h : List Entry) → IsLegal league room h → length h ≤ other → IsLegal league other h
unfolding IsLegal
IsLegal-fits league room other h legal fits = legal_in league room other [] h fits legal
