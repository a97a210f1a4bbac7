-- The rules that a change can alter, by what each looks at of each team and each round alone.
use Rattle.std.proofs.Common.{◌≡◌, ℕ, ◌<◌, ◌&&◌, ◌||◌, not, Bool, true, false, List, Option, Some, None, slice_get, refl, sym, ◌∙◌, ap}
use Rattle.std.specs.Option.{option_map_or}
use Rattle.std.proofs.lemmas.Bool.{cases_lt, or_left, or_right, or_from, and_left, and_right, true≢false}
use Rattle.std.proofs.Common.{inl, inr}
use Rattle.league.specs.Limits.{max_teams, max_rounds}
use Rattle.league.specs.Sets.{has, IsBelow}
use Rattle.league.specs.Sums.{any_below}
use Rattle.league.specs.declared.rule.Rule.{Rule}
use Rattle.league.specs.declared.rule.RuleBody.{RuleBody}
use Rattle.league.specs.declared.rule.RuleBody.TheVariants.{Ca1, Ca2, Ca3, Ca4, Ga1, Br1, Br2, Se1, Fa2}
use Rattle.league.proofs.ForCallers.{any_below_from_none, any_below_same, has_beyond}
use Rattle.rules.specs.LooksPast.{has_team_outside, has_game_of, takes_all_or_none, looks_past}
use Rattle.rules.specs.Touches.{has_touched_team, looks_at_round}
use Rattle.rule_index.specs.Alterable.{is_alterable, is_alterable_at, passes_at}
use Rattle.rule_index.specs.Index.{alone, looks_at_games_of, has_opponent, has_stranger, looks_in_round}
use Rattle.rule_index.proofs.Members.{IsFoundByOne, by_one, alone_only}
use Rattle.rule_index.proofs.Searches.{meets_teams, meets_games, meets_rounds}

-- the numbers of a set below n are below n
within : (n set : ℕ) → IsBelow n set → (k : ℕ) → has set k ≡ true → k < n
within n set below k is = elim (cases_lt k n) [
  | inl lt ↦ lt
  | inr past ↦ absurd (true≢false (sym is ∙ has_beyond n set k below past))
]

not_both : (p q : Bool) → (p ≡ true → q ≡ false) → (p && q) ≡ false
not_both true q fails = fails refl
not_both false q fails = refl

not_not : (b : Bool) → not (not b) ≡ b
not_not true = refl
not_not false = refl

none_of : (n set : ℕ) → any_below n (λ k. has set k && false) ≡ false
none_of n set = any_below_from_none n (λ k. has set k && false) (λ k below. and_right (has set k) false refl)

-- a rule that counts games against no opponents

or_nothing : (b c : Bool) → c ≡ false → b ≡ (b || (c && c))
or_nothing true c none = refl
or_nothing false true none = sym none
or_nothing false false none = refl

of_games : (search_in : (ℕ → Bool) → Bool) (main : ℕ) → IsFoundByOne max_teams search_in → IsBelow max_teams main →
    not (not (search_in (has main))) ≡
    (any_below max_teams (λ t. has main t && not (not (search_in (has (alone t))))) ||
    (any_below max_teams (λ t. has main t && false) && any_below max_teams (λ t. has main t && false)))
of_games search_in main is below =
    not_not (search_in (has main)) ∙ by_one max_teams search_in (has main) is (within max_teams main below) ∙
    any_below_same max_teams (λ t. has main t && search_in (has (alone t))) (λ t. has main t && not (not (search_in (has (alone t)))))
    (λ t in_t. ap (λ b. has main t && b) (sym (not_not (search_in (has (alone t)))))) ∙
    or_nothing (any_below max_teams (λ t. has main t && not (not (search_in (has (alone t))))))
    (any_below max_teams (λ t. has main t && false)) (none_of max_teams main)

-- the opponents have the one team, or not
takes_alone : (t opponents : ℕ) → takes_all_or_none (alone t) opponents ≡ true
unfolding takes_all_or_none has_touched_team has_team_outside
takes_alone t opponents = at (has opponents t) refl
  where
    at : (b : Bool) → has opponents t ≡ b → (not (any_below max_teams (λ u. has (alone t) u && has opponents u)) ||
        not (any_below max_teams (λ u. has (alone t) u && not (has opponents u)))) ≡ true
    at true is =
        or_right (not (any_below max_teams (λ u. has (alone t) u && has opponents u)))
        (not (any_below max_teams (λ u. has (alone t) u && not (has opponents u))))
        (ap not (any_below_from_none max_teams (λ u. has (alone t) u && not (has opponents u))
        (λ u in_u. not_both (has (alone t) u) (not (has opponents u))
        (λ one. ap (λ k. not (has opponents k)) (alone_only t u one) ∙ ap not is))))
    at false is =
        or_left (not (any_below max_teams (λ u. has (alone t) u && has opponents u)))
        (not (any_below max_teams (λ u. has (alone t) u && not (has opponents u))))
        (ap not (any_below_from_none max_teams (λ u. has (alone t) u && has opponents u)
        (λ u in_u. not_both (has (alone t) u) (has opponents u) (λ one. ap (has opponents) (alone_only t u one) ∙ is))))

-- a rule that counts games against some

or_both : (h a o : Bool) → not (not h && (not a || not o)) ≡ (h || (a && o))
or_both true a o = refl
or_both false true true = refl
or_both false true false = refl
or_both false false o = refl

one_takes : (h c : Bool) → c ≡ true → h ≡ not (not h && c)
one_takes true c is = refl
one_takes false c is = sym (ap not is)

parted : (teams opponents main : ℕ) → not (not (has_touched_team teams (has main)) && takes_all_or_none main opponents) ≡
    (has_touched_team teams (has main) ||
    (any_below max_teams (λ t. has main t && has opponents t) && any_below max_teams (λ t. has main t && not (has opponents t))))
unfolding takes_all_or_none has_touched_team has_team_outside
parted teams opponents main =
    or_both (has_touched_team teams (has main)) (any_below max_teams (λ t. has main t && has opponents t))
    (any_below max_teams (λ t. has main t && not (has opponents t)))

of_opponents : (teams opponents main : ℕ) → IsBelow max_teams main →
    not (not (has_touched_team teams (has main)) && takes_all_or_none main opponents) ≡
    (any_below max_teams (λ t. has main t && not (not (has_touched_team teams (has (alone t))) && takes_all_or_none (alone t) opponents)) ||
    (any_below max_teams (λ t. has main t && has opponents t) && any_below max_teams (λ t. has main t && not (has opponents t))))
of_opponents teams opponents main below = parted teams opponents main ∙
    ap (λ b. b ||
    (any_below max_teams (λ t. has main t && has opponents t) && any_below max_teams (λ t. has main t && not (has opponents t))))
    (by_one max_teams (has_touched_team teams) (has main) (meets_teams teams) (within max_teams main below) ∙
    any_below_same max_teams (λ t. has main t && has_touched_team teams (has (alone t)))
    (λ t. has main t && not (not (has_touched_team teams (has (alone t))) && takes_all_or_none (alone t) opponents))
    (λ t in_t. ap (λ b. has main t && b)
    (one_takes (has_touched_team teams (has (alone t))) (takes_all_or_none (alone t) opponents) (takes_alone t opponents))))

-- each class
past_by_teams : (main : ℕ) (body : RuleBody) → IsBelow max_teams main →
    not (looks_past main body) ≡
    (any_below max_teams (λ t. has main t && looks_at_games_of t body) ||
    (any_below max_teams (λ t. has main t && has_opponent t body) && any_below max_teams (λ t. has main t && has_stranger t body)))
unfolding looks_past looks_at_games_of has_opponent has_stranger
past_by_teams main (Ca1 teams side slots most) below = of_games (has_touched_team teams) main (meets_teams teams) below
past_by_teams main (Ca2 teams1 side teams2 slots most) below = of_opponents teams1 teams2 main below
past_by_teams main (Ca3 teams1 side teams2 window most) below = of_opponents teams1 teams2 main below
past_by_teams main (Ca4 teams1 side teams2 slots each most) below = of_opponents teams1 teams2 main below
past_by_teams main (Ga1 games slots least most) below = of_games (has_game_of games) main (meets_games games) below
past_by_teams main (Br1 teams side slots most) below = of_games (has_touched_team teams) main (meets_teams teams) below
past_by_teams main (Br2 teams slots most) below = of_games (has_touched_team teams) main (meets_teams teams) below
past_by_teams main (Se1 teams least) below = of_games (has_touched_team teams) main (meets_teams teams) below
past_by_teams main (Fa2 teams slots most) below = of_games (has_touched_team teams) main (meets_teams teams) below

by_rows : (main rounds : ℕ) (body : RuleBody) → IsBelow max_teams main → IsBelow max_rounds rounds →
    is_alterable main rounds body ≡
    ((any_below max_teams (λ t. has main t && looks_at_games_of t body) ||
    (any_below max_teams (λ t. has main t && has_opponent t body) && any_below max_teams (λ t. has main t && has_stranger t body))) &&
    any_below max_rounds (λ r. has rounds r && looks_in_round r body))
unfolding is_alterable looks_in_round
by_rows main rounds body main_below rounds_below =
    ap (λ b. b && looks_at_round body (has rounds)) (past_by_teams main body main_below) ∙
    ap (λ b. (any_below max_teams (λ t. has main t && looks_at_games_of t body) ||
    (any_below max_teams (λ t. has main t && has_opponent t body) && any_below max_teams (λ t. has main t && has_stranger t body))) && b)
    (by_one max_rounds (looks_at_round body) (has rounds) (meets_rounds body) (within max_rounds rounds rounds_below))

-- a rule at an index, if there is one
of_rule : (main rounds : ℕ) (rule : Option Rule) → IsBelow max_teams main → IsBelow max_rounds rounds →
    option_map_or (λ (r : Rule). is_alterable main rounds r.body) rule false ≡
    ((any_below max_teams (λ t. has main t && option_map_or (λ (r : Rule). looks_at_games_of t r.body) rule false) ||
    (any_below max_teams (λ t. has main t && option_map_or (λ (r : Rule). has_opponent t r.body) rule false) &&
    any_below max_teams (λ t. has main t && option_map_or (λ (r : Rule). has_stranger t r.body) rule false))) &&
    any_below max_rounds (λ t. has rounds t && option_map_or (λ (r : Rule). looks_in_round t r.body) rule false))
of_rule main rounds (Some rule) main_below rounds_below = by_rows main rounds rule.body main_below rounds_below
of_rule main rounds None main_below rounds_below =
    let none : any_below max_teams (λ t. has main t && false) ≡ false = none_of max_teams main in
    sym (and_left _ (any_below max_rounds (λ r. has rounds r && false)) (or_from _ _ none (and_left _ _ none)))

pub alterable_by_rows : (rules : List Rule) (main rounds i : ℕ) → IsBelow max_teams main → IsBelow max_rounds rounds →
    is_alterable_at rules main rounds i ≡
    ((any_below max_teams (λ t. has main t && passes_at rules (looks_at_games_of t) i) ||
    (any_below max_teams (λ t. has main t && passes_at rules (has_opponent t) i) &&
    any_below max_teams (λ t. has main t && passes_at rules (has_stranger t) i))) &&
    any_below max_rounds (λ r. has rounds r && passes_at rules (looks_in_round r) i))
unfolding passes_at
alterable_by_rows rules main rounds i main_below rounds_below = of_rule main rounds (slice_get rules i) main_below rounds_below
