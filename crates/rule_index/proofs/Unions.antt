-- Unions that a loop over the numbers of a set makes.
use Rattle.std.proofs.Common.{◌≡◌, ℕ, ◌&&◌, ◌||◌, Bool, true, false, List, refl, sym, ◌∙◌, ap}
use Rattle.std.proofs.Math.Bool.{or-false}
use Rattle.league.specs.Limits.{max_teams}
use Rattle.league.specs.Sets.{has, IsBelow}
use Rattle.league.specs.within.Sets.{IsWithoutLowest}
use Rattle.league.specs.Sums.{any_below}
use Rattle.league.proofs.ForCallers.{any_below_from_none, lowest_below, has_empty}
use Rattle.league.specs.declared.rule.Rule.{Rule}
use Rattle.rule_index.specs.Alterable.{passes_at}
use Rattle.rule_index.specs.declared.rows.TeamRules.{TeamRules}
use Rattle.rule_index.specs.Index.{looks_at_games_of, has_opponent, has_stranger, IsTeamRow}
use Rattle.rule_index.proofs.Members.{any_lowest}

-- a loop over a set has found the rules of the rows of those numbers that aren't left
pub record IsUnionWithout (n set left found : ℕ) (rows : ℕ → ℕ → Bool) : Type 0 where
  pub members : (i : ℕ) → (has found i || any_below n (λ k. has left k && rows k i)) ≡ any_below n (λ k. has set k && rows k i)

pub union_without_none : (n set left found : ℕ) (rows : ℕ → ℕ → Bool) → left ≡ set → ((i : ℕ) → has found i ≡ false) →
    IsUnionWithout n set left found rows
union_without_none n set left found rows whole empty = record {
  members = λ i.
      ap (λ b. b || any_below n (λ k. has left k && rows k i)) (empty i) ∙ ap (λ s. any_below n (λ k. has s k && rows k i)) whole;
}

pub union_without_more : (n set left lowest rest found row more : ℕ) (rows : ℕ → ℕ → Bool) → IsUnionWithout n set left found rows →
    IsBelow n left → IsWithoutLowest left lowest rest → ((i : ℕ) → has row i ≡ rows lowest i) →
    ((i : ℕ) → has more i ≡ (has found i || has row i)) → IsUnionWithout n set rest more rows
union_without_more n set left lowest rest found row more rows so_far below taken is both = record {
  members = λ i.
      ap (λ b. b || any_below n (λ k. has rest k && rows k i)) (both i ∙ ap (λ b. has found i || b) (is i)) ∙
      regrouped (has found i) (rows lowest i) (any_below n (λ k. has rest k && rows k i)) ∙
      ap (λ b. has found i || b)
      (sym (any_lowest n left lowest rest (λ k. rows k i) taken (lowest_below n left lowest rest below taken))) ∙
      so_far.members i;
}
  where
    regrouped : (a b c : Bool) → ((a || b) || c) ≡ (a || (b || c))
    regrouped true b c = refl
    regrouped false b c = refl

pub union_without_all : (n set left found : ℕ) (rows : ℕ → ℕ → Bool) → IsUnionWithout n set left found rows → left ≡ 0 →
    (i : ℕ) → has found i ≡ any_below n (λ k. has set k && rows k i)
union_without_all n set left found rows so_far none_left i =
    sym (or-false (has found i)) ∙ ap (λ b. has found i || b) (sym none) ∙ so_far.members i
  where
    none : any_below n (λ k. has left k && rows k i) ≡ false
    none =
        any_below_from_none n (λ k. has left k && rows k i)
        (λ k below. ap (λ b. b && rows k i) (ap (λ s. has s k) none_left ∙ has_empty k))

-- those of each kind

pub record AreRulesWithout (rules : List Rule) (teams left of_own of_opponent of_stranger : ℕ) : Type 0 where
  pub own : IsUnionWithout max_teams teams left of_own (λ t. passes_at rules (looks_at_games_of t))
  pub opponent : IsUnionWithout max_teams teams left of_opponent (λ t. passes_at rules (has_opponent t))
  pub stranger : IsUnionWithout max_teams teams left of_stranger (λ t. passes_at rules (has_stranger t))

pub rules_without_more : (rules : List Rule) (teams left lowest rest own opponent stranger own' opponent' stranger' : ℕ) (row : TeamRules) →
    AreRulesWithout rules teams left own opponent stranger → IsBelow max_teams left → IsWithoutLowest left lowest rest →
    IsTeamRow rules lowest row → ((i : ℕ) → has own' i ≡ (has own i || has row.own i)) →
    ((i : ℕ) → has opponent' i ≡ (has opponent i || has row.opponent i)) →
    ((i : ℕ) → has stranger' i ≡ (has stranger i || has row.stranger i)) → AreRulesWithout rules teams rest own' opponent' stranger'
rules_without_more rules teams left lowest rest own opponent stranger own' opponent' stranger' row so_far below taken is more more' more'' =
    record {
      own = union_without_more max_teams teams left lowest rest own row.own own' (λ t. passes_at rules (looks_at_games_of t))
          so_far.own below taken is.own more;
      opponent = union_without_more max_teams teams left lowest rest opponent row.opponent opponent'
          (λ t. passes_at rules (has_opponent t)) so_far.opponent below taken is.opponent more';
      stranger = union_without_more max_teams teams left lowest rest stranger row.stranger stranger'
          (λ t. passes_at rules (has_stranger t)) so_far.stranger below taken is.stranger more'';
    }
