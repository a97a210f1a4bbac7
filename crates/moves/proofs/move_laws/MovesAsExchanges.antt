-- The exchange that a move is.
use Rattle.std.proofs.Common.{◌≡◌, ℕ, Bool, Ok, refl, sym, ◌∙◌, ap, subst, arith}
use Rattle.std.proofs.Math.Path.{fun_ext}
use Rattle.league.specs.Sets.{has}
use Rattle.fixtures.specs.Games.{Games, IsDoubleRoundRobin}
use Rattle.fixtures.specs.Edits.{rounds_exchanged, teams_exchanged}
use Rattle.fixtures.specs.Closed.{member, moved_teams_of, moved_rounds_of}
use Rattle.moves.specs.declared.moves.Move.{Move}
use Rattle.moves.specs.declared.moves.Move.TheVariants.{Homes, Rounds, Teams, PartRounds, PartTeams}
use Rattle.fixtures.specs.declared.exchanges.Exchange.{Exchange}
use Rattle.fixtures.specs.declared.exchanges.Exchange.TheVariants as edit
use Rattle.moves.specs.Moves.{fault_of, moved}
use Rattle.fixtures.specs.Exchanges.{exchanged_by, IsOfRounds, IsOfTeams, IsInSeason, Fits}
use Rattle.moves.specs.ExchangeOf.{exchange_of, IsExchangeOf}
use Rattle.moves.proofs.move_laws.Checked.{at_variant, homes-checked, rounds-checked, teams-checked}
use Rattle.moves.proofs.move_laws.Checked.{part_rounds-checked, part_teams-checked}
use Rattle.moves.proofs.move_laws.WholeMoves.{IsOfRounds-homes, IsOfRounds-rounds, IsOfTeams-teams, as_rounds}
use Rattle.moves.proofs.move_laws.WholeMoves.{all_rounds, of_all_teams, has-apart}
use Rattle.moves.proofs.move_laws.PartMoves.{IsOfRounds-part_rounds, IsOfTeams-part_teams, has-movers, has-taken}
use Rattle.league.proofs.ForCallers.{has_all_numbers}
use Rattle.league.proofs.ForCallers.{has_both}
use Rattle.moves.proofs.Sets.{same_set}

is_of : (g : Games) → IsDoubleRoundRobin g → (mv : Move) (exchange : Exchange) → IsInSeason exchange → Fits g exchange →
    moved g mv ≡ exchanged_by g exchange → IsExchangeOf g mv exchange
is_of g rr mv exchange in_season fits is = record {
  can_be_made = record { round_robin = rr; in_season = in_season; fits = fits };
  is = is;
}

-- by the test of the set
of_rounds : (g : Games) → IsDoubleRoundRobin g → (mv : Move) (k l set : ℕ) (among : ℕ → Bool) →
    ((t : ℕ) → has set t ≡ among t) → IsOfRounds g k l among → moved g mv ≡ rounds_exchanged g k l among →
    IsExchangeOf g mv (edit.Rounds k l set)
of_rounds g rr mv k l set among same fits is =
    let tests : among ≡ has set = sym (fun_ext same) in
    is_of g rr mv (edit.Rounds k l set) (omega (arith, rr.most, fits.pair.home_in), omega (arith, rr.most, fits.pair.away_in))
    (subst (IsOfRounds g k l) tests fits) (is ∙ ap (rounds_exchanged g k l) tests)

of_teams : (g : Games) → IsDoubleRoundRobin g → (mv : Move) (i j set : ℕ) (among : ℕ → Bool) →
    ((r : ℕ) → has set r ≡ among r) → IsOfTeams g i j among → moved g mv ≡ teams_exchanged g i j among →
    IsExchangeOf g mv (edit.Teams i j set)
of_teams g rr mv i j set among same fits is =
    let tests : among ≡ has set = sym (fun_ext same) in
    is_of g rr mv (edit.Teams i j set) (omega (arith, rr.most, fits.pair.home_in), omega (arith, rr.most, fits.pair.away_in))
    (subst (IsOfTeams g i j) tests fits) (is ∙ ap (teams_exchanged g i j) tests)

pub each-exchange : (g : Games) (mv : Move) → IsDoubleRoundRobin g → fault_of g mv ≡ Ok tt →
    IsExchangeOf g mv (exchange_of g mv)
each-exchange g (Homes i j) rr checked =
    let p = homes-checked g i j checked in
    of_rounds g rr (Homes i j) _ _ _ _ (has_both i j) (IsOfRounds-homes g rr i j p) (sym (as_rounds g rr i j p))
each-exchange g (Rounds k l) rr checked =
    let p = rounds-checked g k l checked in
    of_rounds g rr (Rounds k l) k l _ _ (has_all_numbers g.teams) (IsOfRounds-rounds g rr k l p) (of_all_teams g rr k l p)
each-exchange g (Teams i j) rr checked =
    let p = teams-checked g i j checked in
    of_teams g rr (Teams i j) i j _ _ (has-apart g rr i j p) (IsOfTeams-teams g rr i j p) (all_rounds g rr i j p)
each-exchange g (PartRounds i k l) rr checked =
    let known = part_rounds-checked g i k l checked in
    let same = has-movers g rr i k l known.0 known.1 in
    of_rounds g rr (PartRounds i k l) k l _ _ same (IsOfRounds-part_rounds g rr i k l known.0 known.1) refl
each-exchange g (PartTeams i j k) rr checked =
    let known = part_teams-checked g i j k checked in
    let same = has-taken g rr i j k known in
    of_teams g rr (PartTeams i j k) i j _ _ same (IsOfTeams-part_teams g rr i j k known) refl

pub part_rounds-set : (g : Games) → IsDoubleRoundRobin g → (mv : Move) → fault_of g mv ≡ Ok tt → (i k l set : ℕ) →
    mv ≡ PartRounds i k l → ((t : ℕ) → has set t ≡ member (moved_teams_of g i k l) t) →
    edit.Rounds k l set ≡ exchange_of g mv
part_rounds-set g rr mv checked i k l set is same =
    let known = part_rounds-checked g i k l (at_variant g mv (PartRounds i k l) is checked) in
    ap (edit.Rounds k l) (same_set _ _ (λ t. same t ∙ sym (has-movers g rr i k l known.0 known.1 t))) ∙
    ap (exchange_of g) (sym is)

pub part_teams-set : (g : Games) → IsDoubleRoundRobin g → (mv : Move) → fault_of g mv ≡ Ok tt → (i j k set : ℕ) →
    mv ≡ PartTeams i j k → ((r : ℕ) → has set r ≡ member (moved_rounds_of g i j k) r) →
    edit.Teams i j set ≡ exchange_of g mv
part_teams-set g rr mv checked i j k set is same =
    let known = part_teams-checked g i j k (at_variant g mv (PartTeams i j k) is checked) in
    ap (edit.Teams i j) (same_set _ _ (λ r. same r ∙ sym (has-taken g rr i j k known r))) ∙ ap (exchange_of g) (sym is)

pub is_exchange_of : (g : Games) → IsDoubleRoundRobin g → (mv : Move) → fault_of g mv ≡ Ok tt → (exchange : Exchange) →
    exchange ≡ exchange_of g mv → IsExchangeOf g mv exchange
is_exchange_of g rr mv checked exchange is = subst (IsExchangeOf g mv) (sym is) (each-exchange g mv rr checked)
