-- Callers have no part in what a history stands for.
use Rattle.std.proofs.Common.{◌≡◌, suc, Bool, true, false, if◌then◌else◌, ◌&&◌, ◌==◌, nat_lt, List, [], ◌∷◌, ◌++◌, length}
use Rattle.std.proofs.Common.{Option, Some, None, refl, sym, ◌∙◌, ap}
use Rattle.std.specs.Option.{option_map}
use Rattle.league.specs.League.{LeagueData}
use Rattle.costs.specs.Costs.{cost_of, total_of}
use Rattle.costs.specs.declared.cost.Cost.{Cost}
use Rattle.fixture_board.specs.declared.change.Change.{Change}
use Rattle.fixture_board.specs.declared.change.Entry.{Entry}
use Rattle.fixture_board.specs.History.{effect, effective, effective_after, games_of, pins_of, cost_at, better, best_after}
use Rattle.fixture_board.specs.History.{best_prefix, as_best, best_of}
use Rattle.fixture_board.specs.Replay.{under_caller_0}
use Rattle.fixture_board.proofs.OneMore.{games_of-by, pins_of-by}

pub under-more : (h : List Entry) (e : Entry) →
    under_caller_0 (h ++ e ∷ []) ≡ under_caller_0 h ++ record { caller = 0; change = e.change } ∷ []
under-more [] e = refl
under-more (first ∷ h) e = ap (λ (rest : List Entry). record { caller = 0; change = first.change } ∷ rest) (under-more h e)

pub length-under : (h : List Entry) → length (under_caller_0 h) ≡ length h
length-under [] = refl
length-under (e ∷ h) = ap suc (length-under h)

-- the changes in effect, the games, the pins and the cost

effective_after-under : (changes : List Change) (h : List Entry) →
    effective_after changes (under_caller_0 h) ≡ effective_after changes h
effective_after-under changes [] = refl
effective_after-under changes (e ∷ h) = effective_after-under (effect changes e.change) h

pub effective-under : (h : List Entry) → effective (under_caller_0 h) ≡ effective h
unfolding effective
effective-under h = effective_after-under [] h

pub games_of-under : (league : LeagueData) (h : List Entry) →
    games_of league (under_caller_0 h) ≡ games_of league h
games_of-under league h =
    games_of-by league (under_caller_0 h) (effective h) (effective-under h) ∙
    sym (games_of-by league h (effective h) refl)

pub pins_of-under : (league : LeagueData) (h : List Entry) → pins_of league (under_caller_0 h) ≡ pins_of league h
pins_of-under league h =
    pins_of-by league (under_caller_0 h) (effective h) (effective-under h) ∙ sym (pins_of-by league h (effective h) refl)

cost_at-under : (league : LeagueData) (h : List Entry) →
    cost_at league (under_caller_0 h) ≡ cost_at league h
unfolding cost_at
cost_at-under league h = ap (cost_of league) (games_of-under league h)

-- the best prefix under caller 0 is the best prefix, under caller 0

found-if : (test : Bool) (x y : Option (List Entry)) →
    (if test then option_map under_caller_0 x else option_map under_caller_0 y) ≡
    option_map under_caller_0 (if test then x else y)
found-if true x y = refl
found-if false x y = refl

better-under : (league : LeagueData) (found : Option (List Entry)) (p : List Entry) →
    better league (option_map under_caller_0 found) (under_caller_0 p) ≡
    option_map under_caller_0 (better league found p)
better-under league None p =
    ap (λ (cost : Cost). if cost.hard == 0 then Some (under_caller_0 p) else None) (cost_at-under league p) ∙
    found-if ((cost_at league p).hard == 0) (Some p) None
better-under league (Some q) p =
    ap (λ (cost : Cost). if cost.hard == 0 && nat_lt (total_of cost) (total_of (cost_at league (under_caller_0 q)))
    then Some (under_caller_0 p) else Some (under_caller_0 q)) (cost_at-under league p) ∙
    ap (λ (cost : Cost). if (cost_at league p).hard == 0 && nat_lt (total_of (cost_at league p)) (total_of cost)
    then Some (under_caller_0 p) else Some (under_caller_0 q)) (cost_at-under league q) ∙
    found-if ((cost_at league p).hard == 0 && nat_lt (total_of (cost_at league p)) (total_of (cost_at league q)))
    (Some p) (Some q)

best_after-under : (league : LeagueData) (before h : List Entry) (found : Option (List Entry)) →
    best_after league (under_caller_0 before) (option_map under_caller_0 found) (under_caller_0 h) ≡
    option_map under_caller_0 (best_after league before found h)
best_after-under league before [] found = refl
best_after-under league before (e ∷ h) found =
    ap (λ x. best_after league x (better league (option_map under_caller_0 found) x) (under_caller_0 h))
    (sym (under-more before e)) ∙
    ap (λ x. best_after league (under_caller_0 (before ++ e ∷ [])) x (under_caller_0 h))
    (better-under league found (before ++ e ∷ [])) ∙
    best_after-under league (before ++ e ∷ []) h (better league found (before ++ e ∷ []))

best_prefix-under : (league : LeagueData) (h : List Entry) →
    best_prefix league (under_caller_0 h) ≡ option_map under_caller_0 (best_prefix league h)
unfolding best_prefix
best_prefix-under league h =
    ap (λ found. best_after league [] found (under_caller_0 h)) (better-under league None []) ∙
    best_after-under league [] h (better league None [])

as_best-under : (league : LeagueData) (found : Option (List Entry)) →
    as_best league (option_map under_caller_0 found) ≡ as_best league found
as_best-under league None = refl
as_best-under league (Some p) =
    ap (λ at. Some (record { at = at; total = total_of (cost_at league (under_caller_0 p)) })) (length-under p) ∙
    ap (λ (cost : Cost). Some (record { at = length p; total = total_of cost })) (cost_at-under league p)

pub best_of-under : (league : LeagueData) (h : List Entry) →
    best_of league (under_caller_0 h) ≡ best_of league h
unfolding best_of
best_of-under league h =
    ap (as_best league) (best_prefix-under league h) ∙ as_best-under league (best_prefix league h)
