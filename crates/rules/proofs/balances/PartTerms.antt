-- The terms of a deviation that a change can alter, as loops over some of the teams count them.
use Rattle.std.proofs.Common.{◌≡◌, ℕ, ◌&&◌, ◌||◌, ◌==◌, not, Bool, true, false, refl, sym, ◌∙◌, ap, ap₂}
use Rattle.league.specs.Sets.{has, all_numbers}
use Rattle.std.proofs.lemmas.Bool.{cond-true, cond-false, eq-eqb, false≢true}
use Rattle.league.specs.Limits.{max_teams}
use Rattle.league.specs.Sums.{sum_where, any_below}
use Rattle.league.specs.declared.rule.RuleBody.TheVariants.{Ca1, Ca2, Ca3, Ca4, Br1}
use Rattle.league.specs.declared.rule.Side.{Side}
use Rattle.league.proofs.ForCallers.{sum_where_same, any_below_same, has_all_numbers}
use Rattle.fixtures.specs.Games.{Games, round_count, IsDoubleRoundRobin}
use Rattle.rules.specs.Deviations.{over, games_in_round, deviation}
use Rattle.rules.specs.Touches.{has_touched_team}
use Rattle.rules.specs.LooksPast.{takes_all_or_none}
use Rattle.rules.specs.Parts.{is_guest, meets_otherwise, counts_otherwise, over_in_met_windows, changing_terms}
use Rattle.rules.proofs.rows.AllTeams.{games_of_team-all}
use Rattle.rules.proofs.walks.Searches.{and_again}

pub Ca2-terms : (g : Games) (main rounds sides teams : ℕ) (side : Side) (opponents slots most both : ℕ) →
    ((t : ℕ) → has both t ≡ (has teams t && counts_otherwise g main rounds sides opponents t)) →
    deviation g (Ca2 both side opponents slots most) ≡ changing_terms g main rounds sides (Ca2 teams side opponents slots most)
unfolding deviation changing_terms
Ca2-terms g main rounds sides teams side opponents slots most both members =
    sum_where_same g.teams (has both) (λ t. has teams t && counts_otherwise g main rounds sides opponents t) _ _ (λ t in_t. members t)
    (λ t in_t is. refl)

pub Ca3-terms : (g : Games) (main rounds sides teams : ℕ) (side on : Side) (opponents against window most both : ℕ) →
    ((t : ℕ) → has both t ≡ (has teams t && counts_otherwise g main rounds sides opponents t)) → on ≡ side → against ≡ opponents →
    sum_where g.teams (has both) (over_in_met_windows g on (has against) window most (has rounds)) ≡
    changing_terms g main rounds sides (Ca3 teams side opponents window most)
unfolding changing_terms
Ca3-terms g main rounds sides teams side on opponents against window most both members same_side same =
    ap₂ (λ (s : Side) (o : ℕ). sum_where g.teams (has both) (over_in_met_windows g s (has o) window most (has rounds))) same_side same ∙
    sum_where_same g.teams (has both) (λ t. has teams t && counts_otherwise g main rounds sides opponents t) _ _ (λ t in_t. members t)
    (λ t in_t is. refl)

pub Br1-terms : (g : Games) (main rounds sides teams : ℕ) (side : Side) (slots most both : ℕ) →
    ((t : ℕ) → has both t ≡ (has teams t && has sides t)) →
    deviation g (Br1 both side slots most) ≡ changing_terms g main rounds sides (Br1 teams side slots most)
unfolding deviation changing_terms
Br1-terms g main rounds sides teams side slots most both members =
    sum_where_same g.teams (has both) (λ t. has teams t && has sides t) _ _ (λ t in_t. members t) (λ t in_t is. refl)

-- one of a rule's teams counts otherwise
pub one_is_met : (teams both : ℕ) (test : ℕ → Bool) → ((t : ℕ) → has both t ≡ (has teams t && test t)) →
    any_below max_teams (λ t. has both t && has teams t) ≡ has_touched_team teams test
unfolding has_touched_team
one_is_met teams both test members =
    any_below_same max_teams (λ t. has both t && has teams t) (λ t. has teams t && test t)
    (λ t below. ap (λ b. b && has teams t) (members t) ∙ and_again (has teams t) (test t))

module _ (g : Games) (main rounds sides teams : ℕ) (side : Side) (opponents slots most : ℕ) where
  pub Ca4-none : (each : Bool) → has_touched_team teams (counts_otherwise g main rounds sides opponents) ≡ false →
      0 ≡ changing_terms g main rounds sides (Ca4 teams side opponents slots each most)
  unfolding changing_terms
  Ca4-none true none = sym (cond-false {A = ℕ} (has_touched_team teams (counts_otherwise g main rounds sides opponents)) _ 0 none)
  Ca4-none false none = sym (cond-false {A = ℕ} (has_touched_team teams (counts_otherwise g main rounds sides opponents)) _ 0 none)

  pub Ca4-all : has_touched_team teams (counts_otherwise g main rounds sides opponents) ≡ true →
      over (sum_where (round_count g.teams) (has slots) (games_in_round g side (has teams) (has opponents))) most ≡
      changing_terms g main rounds sides (Ca4 teams side opponents slots false most)
  unfolding deviation changing_terms
  Ca4-all one = sym (cond-true {A = ℕ} (has_touched_team teams (counts_otherwise g main rounds sides opponents)) _ 0 one)

  pub Ca4-whole : (each : Bool) → each ≡ false → has_touched_team teams (counts_otherwise g main rounds sides opponents) ≡ true →
      deviation g (Ca4 teams side opponents slots each most) ≡ changing_terms g main rounds sides (Ca4 teams side opponents slots each most)
  unfolding deviation
  Ca4-whole true together one = absurd (false≢true (sym together))
  Ca4-whole false together one = Ca4-all one

  pub Ca4-each : (both : ℕ) → ((r : ℕ) → has both r ≡ (has slots r && has rounds r)) →
      has_touched_team teams (counts_otherwise g main rounds sides opponents) ≡ true →
      sum_where (round_count g.teams) (has both) (λ r. over (games_in_round g side (has teams) (has opponents) r) most) ≡
      changing_terms g main rounds sides (Ca4 teams side opponents slots true most)
  unfolding changing_terms
  Ca4-each both members one =
      sum_where_same (round_count g.teams) (has both) (λ r. has slots r && has rounds r) _ _ (λ r in_r. members r) (λ r in_r is. refl) ∙
      sym (cond-true {A = ℕ} (has_touched_team teams (counts_otherwise g main rounds sides opponents)) _ 0 one)

-- the teams of which other games may count

pub otherwise_flipped : (g : Games) (main rounds sides opponents teams t : ℕ) → (opponents == all_numbers g.teams) ≡ true →
    (has teams t && has sides t) ≡ (has teams t && counts_otherwise g main rounds sides opponents t)
unfolding counts_otherwise
otherwise_flipped g main rounds sides opponents teams t all =
    ap (λ b. has teams t && b) (sym (cond-true (opponents == all_numbers g.teams) _ (meets_otherwise g main rounds opponents t) all))

-- of CA1 they are those of CA2 against all teams
pub Ca1-otherwise : (g : Games) → IsDoubleRoundRobin g → (main rounds sides teams : ℕ) (side : Side) (slots most : ℕ) →
    changing_terms g main rounds sides (Ca2 teams side (all_numbers g.teams) slots most) ≡
    changing_terms g main rounds sides (Ca1 teams side slots most)
unfolding changing_terms
Ca1-otherwise g rr main rounds sides teams side slots most =
    let all = all_numbers g.teams in
    sum_where_same g.teams _ _ _ _
    (λ t in_t. sym (otherwise_flipped g main rounds sides all teams t (eq-eqb all all refl)))
    (λ t in_t is. ap (λ (count : ℕ). over count most) (games_of_team-all g rr side all (has_all_numbers g.teams) (has slots) t in_t))

pub otherwise_met : (g : Games) (main rounds sides opponents teams t : ℕ) → (opponents == all_numbers g.teams) ≡ false →
    (has teams t && meets_otherwise g main rounds opponents t) ≡ (has teams t && counts_otherwise g main rounds sides opponents t)
unfolding counts_otherwise
otherwise_met g main rounds sides opponents teams t some =
    ap (λ b. has teams t && b) (sym (cond-false (opponents == all_numbers g.teams) (has sides t) _ some))

pub otherwise_main : (g : Games) (main rounds opponents teams t : ℕ) → takes_all_or_none main opponents ≡ true →
    (has teams t && has main t) ≡ (has teams t && meets_otherwise g main rounds opponents t)
unfolding meets_otherwise
otherwise_main g main rounds opponents teams t all =
    ap (λ b. has teams t && b) (sym (ap (λ b. has main t || (not b && is_guest g (has main) (has rounds) t)) all ∙ or_false (has main t)))
  where
    or_false : (b : Bool) → (b || false) ≡ b
    or_false true = refl
    or_false false = refl

pub otherwise_around : (g : Games) (main rounds opponents teams t : ℕ) → takes_all_or_none main opponents ≡ false →
    (has teams t && (has main t || is_guest g (has main) (has rounds) t)) ≡ (has teams t && meets_otherwise g main rounds opponents t)
unfolding meets_otherwise
otherwise_around g main rounds opponents teams t some =
    ap (λ b. has teams t && (has main t || (not b && is_guest g (has main) (has rounds) t))) (sym some)
