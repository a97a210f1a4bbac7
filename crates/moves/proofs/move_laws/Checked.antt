-- What is known of a move that can be made.
use Rattle.std.proofs.Common.{◌≡◌, ℕ, ◌<◌, Bool, true, false, not, ◌&&◌, ◌||◌, eqb, ltb, refl, sym, ◌∙◌, ap, ap₂, subst}
use Rattle.std.proofs.Common.{Result, Ok, Err, if◌then◌else◌}
use Rattle.std.proofs.lemmas.Bool.{and_parts, or_parts, or_from, eqb-false, ne_eqb, ltb-true, not_from_false}
use Rattle.fixtures.specs.Games.{Games, round_of, round_count, IsPair}
use Rattle.fixtures.proofs.ForCallers.{pair_from_tests, are_apart}
use Rattle.moves.specs.declared.moves.Move.{Move}
use Rattle.moves.specs.declared.moves.Move.TheVariants.{Homes, Rounds, Teams, PartRounds, PartTeams}
use Rattle.moves.specs.declared.fault.MoveFault.{MoveFault}
use Rattle.moves.specs.declared.fault.MoveFault.TheVariants.{BadMove, Meet}
use Rattle.moves.specs.Moves.{fault_of, is_in_range, meets, are_distinct_below}

-- why a move is refused, by its two tests
abbrev outcome : Bool → Bool → Result (Unit {0}) MoveFault
outcome in_range met = if not in_range then Err BadMove else if met then Err Meet else Ok tt

parts : (in_range met : Bool) → outcome in_range met ≡ Ok tt → (in_range ≡ true) × (met ≡ false)
parts true true e = absurd (cc)
parts true false e = (refl, refl)
parts false met e = absurd (cc)

pub homes-checked : (g : Games) (i j : ℕ) → fault_of g (Homes i j) ≡ Ok tt → IsPair g.teams i j
homes-checked g i j e = pair_from_tests g.teams i j (parts (is_in_range g (Homes i j)) (meets g (Homes i j)) e).0

pub rounds-checked : (g : Games) (k l : ℕ) → fault_of g (Rounds k l) ≡ Ok tt → IsPair (round_count g.teams) k l
rounds-checked g k l e =
    pair_from_tests (round_count g.teams) k l (parts (is_in_range g (Rounds k l)) (meets g (Rounds k l)) e).0

pub teams-checked : (g : Games) (i j : ℕ) → fault_of g (Teams i j) ≡ Ok tt → IsPair g.teams i j
teams-checked g i j e = pair_from_tests g.teams i j (parts (is_in_range g (Teams i j)) (meets g (Teams i j)) e).0

pub part_rounds-checked : (g : Games) (i k l : ℕ) → fault_of g (PartRounds i k l) ≡ Ok tt →
    (i < g.teams) × IsPair (round_count g.teams) k l
part_rounds-checked g i k l e =
    let tests = and_parts (ltb i g.teams) (are_distinct_below (round_count g.teams) k l)
    (parts (is_in_range g (PartRounds i k l)) (meets g (PartRounds i k l)) e).0 in
    (ltb-true i g.teams tests.0, pair_from_tests (round_count g.teams) k l tests.1)

pub record IsPartTeams (g : Games) (i j k : ℕ) : Type 0 where
  pub pair : IsPair g.teams i j
  pub in_range : k < round_count g.teams
  pub apart : are_apart g i j k ≡ true

pub part_teams-checked : (g : Games) (i j k : ℕ) → fault_of g (PartTeams i j k) ≡ Ok tt → IsPartTeams g i j k
part_teams-checked g i j k e =
    let checked = parts (is_in_range g (PartTeams i j k)) (meets g (PartTeams i j k)) e in
    let tests = and_parts (are_distinct_below g.teams i j) (ltb k (round_count g.teams)) checked.0 in
    let apart = or_parts (eqb (round_of g i j) k) (eqb (round_of g j i) k) checked.1 in
    record {
      pair = pair_from_tests g.teams i j tests.0;
      in_range = ltb-true k (round_count g.teams) tests.1;
      apart = not_from_false _
          (or_from _ _ (ne_eqb k (round_of g i j) (λ f. eqb-false _ _ apart.0 (sym f)))
          (ne_eqb k (round_of g j i) (λ f. eqb-false _ _ apart.1 (sym f))));
    }

-- where the size and the two games between i and j are the same, so is the answer
pub with_same_meeting : (g g' : Games) (i j k : ℕ) → g'.teams ≡ g.teams → round_of g' i j ≡ round_of g i j →
    round_of g' j i ≡ round_of g j i → fault_of g (PartTeams i j k) ≡ Ok tt → fault_of g' (PartTeams i j k) ≡ Ok tt
with_same_meeting g g' i j k size first second checked =
    ap₂ outcome
    (ap (λ n. are_distinct_below n i j && ltb k (round_count n)) size)
    (ap₂ (λ x y. eqb x k || eqb y k) first second) ∙
    checked

pub at_variant : (g : Games) (mv variant : Move) → mv ≡ variant → fault_of g mv ≡ Ok tt → fault_of g variant ≡ Ok tt
at_variant g mv variant e = subst (λ (m : Move). fault_of g m ≡ Ok tt) e
