-- The games of a list, one by one.
use Rattle.std.proofs.Common.{◌≡◌, ℕ, ◌+◌, Bool, true, false, if◌then◌else◌, List, get_or, take, Some, refl, ap, ◌∙◌, arith}
use Rattle.std.specs.List.{slice_get, count_by, AllByRecursion}
use Rattle.std.proofs.lemmas.Bool.{cond-true, cond-false}
use Rattle.std.proofs.lemmas.List.Elements.{All-from_recursion, All-get_or}
use Rattle.std.proofs.lemmas.List.Sums.{count_by_more_yes, count_by_more_no}
use Rattle.std.proofs.lemmas.Option.{slice_get_within, get_or_from_slice_get}
use Rattle.league.specs.declared.rule.Pairing.{Pairing}
use Rattle.league.specs.Games.{IsGameFor}
use Rattle.fixtures.specs.Games.{IsPair}

-- one more of a list's items is counted if it passes
pub count_by_more : {X : Type 0} (test : X → Bool) (xs : List X) (i : ℕ) (x : X) → slice_get xs i ≡ Some x →
    count_by test (take (i + 1) xs) ≡ count_by test (take i xs) + (if test x then 1 else 0)
count_by_more {X} test xs i x is = by_test (test x) refl
  where
    here : test (get_or xs i x) ≡ test x
    here = ap test (get_or_from_slice_get xs i x x is)

    by_test : (b : Bool) → test x ≡ b → count_by test (take (i + 1) xs) ≡ count_by test (take i xs) + (if test x then 1 else 0)
    by_test true e =
        omega (arith, count_by_more_yes test xs i x (slice_get_within xs i x is) (here ∙ e), cond-true {A = ℕ} (test x) 1 0 e)
    by_test false e =
        omega (arith, count_by_more_no test xs i x (slice_get_within xs i x is) (here ∙ e), cond-false {A = ℕ} (test x) 1 0 e)

-- a game of a list has two distinct teams
pub IsPair_game : (n : ℕ) (games : List Pairing) (i : ℕ) (game : Pairing) → AllByRecursion (IsGameFor n) games →
    slice_get games i ≡ Some game → IsPair n game.home game.away
IsPair_game n games i game all is =
    let item : IsGameFor n (get_or games i game) =
    All-get_or (IsGameFor n) games i game (slice_get_within games i game is) (All-from_recursion (IsGameFor n) games all) in
    let own : IsGameFor n game = rw (get_or_from_slice_get games i game game is) at item in
    record { home_in = own.home; away_in = own.away; distinct = own.distinct }
