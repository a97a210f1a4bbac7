-- The laws of the moves, of each move: those of its exchange, and that it can be made again.
use Rattle.std.proofs.Common.{◌≡◌, ◌≢◌, ℕ, ◌<◌, ◌⊎◌, inl, inr, Bool, true, Ok, refl, sym, ◌∙◌, ap, subst, arith}
use Rattle.std.proofs.lemmas.Bool.{cases_lt, and_from, and_left, or_left, or_right, or_from, ne_eqb, lt-ltb, le-ltb}
use Rattle.std.proofs.Math.Path.{fun_ext}
use Rattle.league.specs.Sets.{has}
use Rattle.league.proofs.ForCallers.{has_all_numbers}
use Rattle.fixtures.specs.Games.{Games, round_of, round_count, IsPair, IsDoubleRoundRobin}
use Rattle.fixtures.specs.Changes.{DiffersOnlyIn}
use Rattle.fixtures.proofs.ForCallers.{cases_exchanged, are_apart_true, Meets, meets_swapped, same_opponent}
use Rattle.fixtures.specs.TouchedCells.{TouchedCells}
use Rattle.fixtures.specs.declared.exchanges.Exchange.{Exchange}
use Rattle.moves.specs.declared.moves.Move.{Move}
use Rattle.moves.specs.declared.moves.Move.TheVariants.{Homes, Rounds, Teams, PartRounds, PartTeams}
use Rattle.moves.specs.Moves.{fault_of, moved, touched_team, touched_round}
use Rattle.fixtures.specs.Exchanges.{exchanged_by, main_cells}
use Rattle.fixtures.specs.within.Exchanges.{touched_of, touched_by}
use Rattle.moves.specs.ExchangeOf.{exchange_of}
use Rattle.fixtures.specs.Laws.{DiffersInEach}
use Rattle.moves.specs.Laws.{OfEachMove, IsItsOwnInverse, StaysDoubleRoundRobin, DiffersWhereTouched, DiffersInEachTouched}
use Rattle.moves.proofs.move_laws.Checked.{homes-checked, rounds-checked, teams-checked, part_rounds-checked, part_teams-checked}
use Rattle.moves.proofs.move_laws.MovesAsExchanges.{each-exchange}
use Rattle.fixtures.proofs.ForCallers.{each_undone, each_differs_by, each_in_touched}
use Rattle.league.proofs.ForCallers.{has_both}
use Rattle.fixtures.proofs.ForCallers.{touched_first, touched_second, touched_other}
use Rattle.moves.proofs.move_laws.WholeMoves.{apart, has-apart, IsItsOwnInverse-homes, IsItsOwnInverse-rounds, IsItsOwnInverse-teams}
use Rattle.moves.proofs.move_laws.PartMoves.{has-movers, has-taken, IsItsOwnInverse-part_rounds, IsItsOwnInverse-part_teams}

pub each-its_own_inverse : OfEachMove IsItsOwnInverse
each-its_own_inverse g (Homes i j) rr checked = IsItsOwnInverse-homes g rr i j (homes-checked g i j checked) checked
each-its_own_inverse g (Rounds k l) rr checked = IsItsOwnInverse-rounds g rr k l (rounds-checked g k l checked) checked
each-its_own_inverse g (Teams i j) rr checked = IsItsOwnInverse-teams g rr i j (teams-checked g i j checked) checked
each-its_own_inverse g (PartRounds i k l) rr checked =
    let known = part_rounds-checked g i k l checked in
    IsItsOwnInverse-part_rounds g rr i k l known.0 known.1 checked
each-its_own_inverse g (PartTeams i j k) rr checked =
    IsItsOwnInverse-part_teams g rr i j k (part_teams-checked g i j k checked) checked

pub each-double_round_robin : OfEachMove StaysDoubleRoundRobin
each-double_round_robin g mv rr checked =
    let one = each-exchange g mv rr checked in
    subst IsDoubleRoundRobin (sym one.is) (each_undone g (exchange_of g mv) one.can_be_made).again.round_robin

-- all teams are touched by an exchange of two in all rounds in which they don't meet
module _ (g : Games) (rr : IsDoubleRoundRobin g) (i j : ℕ) (p : IsPair g.teams i j) where
  all_touched : (t : ℕ) → t < g.teams → (t ≡ i) ⊎ ((t ≡ j) ⊎ ((t ≢ i) × (t ≢ j))) →
      touched_of g i j (apart g rr i j p) t ≡ true
  all_touched t _ (inl e) = ap (touched_of g i j (apart g rr i j p)) e ∙ touched_first g i j (apart g rr i j p) p
  all_touched t _ (inr (inl e)) = ap (touched_of g i j (apart g rr i j p)) e ∙ touched_second g i j (apart g rr i j p) p
  all_touched t in_t (inr (inr ne)) =
      let q : IsPair g.teams t i = record { home_in = in_t; away_in = p.home_in; distinct = ne.0 } in
      let met : Meets g t i (round_of g t i) = (q, inl refl) in
      touched_other g i j (apart g rr i j p) p t in_t
      (or_left _ _ (or_left _ _ (or_right (apart g rr i j p (round_of g i t)) _
      (and_from _ _ (lt-ltb (round_of g t i) (round_count g.teams) (rr.in_range t i q))
      (are_apart_true g i j (round_of g t i)
      (λ theirs. ne.1 (same_opponent g rr i t j (round_of g t i) (meets_swapped g t i (round_of g t i) met) theirs)) p)))))

  whole_touched : (t : ℕ) → touched_team g (Teams i j) t ≡ touched_of g i j (apart g rr i j p) t
  whole_touched t =
      elim (cases_lt t g.teams) [
        | inl lt ↦ lt-ltb t g.teams lt ∙ sym (all_touched t lt (cases_exchanged i j t))
        | inr le ↦
            le-ltb t g.teams le ∙
            sym (or_from _ _ (or_from _ _ (ne_eqb t i (λ e. omega arith)) (ne_eqb t j (λ e. omega arith)))
            (and_left _ _ (le-ltb t g.teams le)))
      ]

same_touched_team : (g : Games) (mv : Move) → IsDoubleRoundRobin g → fault_of g mv ≡ Ok tt → (t : ℕ) →
    touched_team g mv t ≡ touched_by g (exchange_of g mv) t
same_touched_team g (Homes i j) rr checked t = sym (has_both i j t)
same_touched_team g (Rounds k l) rr checked t = sym (has_all_numbers g.teams t)
same_touched_team g (Teams i j) rr checked t =
    let p = teams-checked g i j checked in
    whole_touched g rr i j p t ∙ ap (λ among. touched_of g i j among t) (sym (fun_ext (has-apart g rr i j p)))
same_touched_team g (PartRounds i k l) rr checked t =
    let known = part_rounds-checked g i k l checked in
    sym (has-movers g rr i k l known.0 known.1 t)
same_touched_team g (PartTeams i j k) rr checked t =
    ap (λ among. touched_of g i j among t) (sym (fun_ext (has-taken g rr i j k (part_teams-checked g i j k checked))))

same_touched_round : (g : Games) (mv : Move) → IsDoubleRoundRobin g → fault_of g mv ≡ Ok tt → (r : ℕ) →
    touched_round g mv r ≡ has (main_cells (exchange_of g mv)).rounds r
same_touched_round g (Homes i j) rr checked r = sym (has_both (round_of g i j) (round_of g j i) r)
same_touched_round g (Rounds k l) rr checked r = sym (has_both k l r)
same_touched_round g (Teams i j) rr checked r = sym (has-apart g rr i j (teams-checked g i j checked) r)
same_touched_round g (PartRounds i k l) rr checked r = sym (has_both k l r)
same_touched_round g (PartTeams i j k) rr checked r = sym (has-taken g rr i j k (part_teams-checked g i j k checked) r)

-- what holds of the exchange over what it touches holds of the move
by_exchange : (Law : Games → Games → (ℕ → Bool) → (ℕ → Bool) → Type 0) → (g : Games) (mv : Move) →
    IsDoubleRoundRobin g → fault_of g mv ≡ Ok tt →
    Law g (exchanged_by g (exchange_of g mv)) (touched_by g (exchange_of g mv)) (has (main_cells (exchange_of g mv)).rounds) →
    Law g (moved g mv) (touched_team g mv) (touched_round g mv)
by_exchange Law g mv rr checked of_exchange =
    subst (λ (x : Games). Law g x (touched_team g mv) (touched_round g mv)) (sym (each-exchange g mv rr checked).is)
    (subst (λ teams. Law g (exchanged_by g (exchange_of g mv)) teams (touched_round g mv))
    (sym (fun_ext (same_touched_team g mv rr checked)))
    (subst (Law g (exchanged_by g (exchange_of g mv)) (touched_by g (exchange_of g mv)))
    (sym (fun_ext (same_touched_round g mv rr checked))) of_exchange))

pub each-differs : OfEachMove DiffersWhereTouched
each-differs g mv rr checked =
    by_exchange DiffersOnlyIn g mv rr checked
    (each_differs_by g (exchange_of g mv) (each-exchange g mv rr checked).can_be_made)

pub each-differs_in_touched : OfEachMove DiffersInEachTouched
each-differs_in_touched g mv rr checked =
    by_exchange DiffersInEach g mv rr checked
    (each_in_touched g (exchange_of g mv) (each-exchange g mv rr checked).can_be_made)

-- what is told of a move's exchange, over sets of teams and rounds, is what is told of the move
pub record TellsTouched (g : Games) (mv : Move) (cells : TouchedCells) : Type 0 where
  pub teams : (t : ℕ) → has cells.teams t ≡ touched_team g mv t
  pub rounds : (r : ℕ) → has cells.rounds r ≡ touched_round g mv r

pub tells_touched : (g : Games) → IsDoubleRoundRobin g → (mv : Move) → fault_of g mv ≡ Ok tt → (exchange : Exchange) →
    exchange ≡ exchange_of g mv → (cells : TouchedCells) → ((t : ℕ) → has cells.teams t ≡ touched_by g exchange t) →
    cells.rounds ≡ (main_cells exchange).rounds → TellsTouched g mv cells
tells_touched g rr mv checked exchange is cells teams rounds = record {
  teams = λ t. teams t ∙ ap (λ (e : Exchange). touched_by g e t) is ∙ sym (same_touched_team g mv rr checked t);
  rounds = λ r. ap (λ set. has set r) rounds ∙ ap (λ (e : Exchange). has (main_cells e).rounds r) is ∙
      sym (same_touched_round g mv rr checked r);
}

pub differs_by : (g g' : Games) → IsDoubleRoundRobin g → (mv : Move) → fault_of g mv ≡ Ok tt → g' ≡ moved g mv →
    (cells : TouchedCells) → TellsTouched g mv cells → DiffersOnlyIn g g' (has cells.teams) (has cells.rounds)
differs_by g g' rr mv checked made cells tells =
    subst (λ (x : Games). DiffersOnlyIn g x (has cells.teams) (has cells.rounds)) (sym made)
    (subst (λ teams. DiffersOnlyIn g (moved g mv) teams (has cells.rounds)) (sym (fun_ext tells.teams))
    (subst (DiffersOnlyIn g (moved g mv) (touched_team g mv)) (sym (fun_ext tells.rounds)) (each-differs g mv rr checked)))
