-- The laws of the two partial moves.
use Rattle.std.proofs.Common.{◌≡◌, ℕ, ◌<◌, Bool, true, ltb, List, refl, sym, ◌∙◌, ap, Ok}
use Rattle.std.proofs.lemmas.Bool.{cond-false, lt-ltb, ltb-true, false_from_ne_true, false≢true}
use Rattle.league.specs.Sets.{has}
use Rattle.fixtures.specs.Games.{Games, round_of, round_count, IsPair, IsDoubleRoundRobin}
use Rattle.fixtures.specs.Edits.{rounds_exchanged, teams_exchanged}
use Rattle.fixtures.specs.Closed.{IsLeastClosed, plays_in, shares_opponent, member, moved_teams_of, moved_rounds_of}
use Rattle.fixtures.proofs.ForCallers.{pair_swapped, least_closed_is_least, closed_walk, plays_in_parts, plays_in_below}
use Rattle.fixtures.proofs.ForCallers.{rounds_exchanged_twice, moved_teams_of_rounds_exchanged, stays_among_closed}
use Rattle.fixtures.proofs.ForCallers.{StaysAmong, teams_exchanged_twice, round_of_teams_exchanged}
use Rattle.fixtures.proofs.ForCallers.{moved_rounds_of_teams_exchanged, are_apart, are_apart_first, are_apart_second}
use Rattle.fixtures.proofs.ForCallers.{are_apart_step, shares_in_range}
use Rattle.moves.specs.declared.moves.Move.TheVariants.{PartRounds, PartTeams}
use Rattle.moves.specs.Moves.{fault_of, moved, touched_team}
use Rattle.fixtures.specs.Exchanges.{IsOfRounds, IsOfTeams}
use Rattle.fixtures.specs.within.Exchanges.{touched_of}
use Rattle.moves.specs.ExchangeOf.{set_where}
use Rattle.moves.specs.Laws.{IsItsOwnInverse}
use Rattle.moves.proofs.move_laws.Checked.{IsPartTeams, with_same_meeting}
use Rattle.moves.proofs.Sets.{has-set_of_all}
use Rattle.fixtures.proofs.ForCallers.{touched_same}

-- ---- rounds

module _ (g : Games) (rr : IsDoubleRoundRobin g) (i k l : ℕ) (in_i : i < g.teams)
    (p : IsPair (round_count g.teams) k l) where
  abbrev pub movers : ℕ → Bool
  movers = member (moved_teams_of g i k l)

  pub IsLeastClosed-moved_teams : IsLeastClosed (plays_in g k l) i movers
  IsLeastClosed-moved_teams =
      least_closed_is_least (plays_in g k l) g.teams i (λ t u plays. (plays_in_parts g k l t u plays).0.away_in) in_i

  movers_below : (t : ℕ) → movers t ≡ true → t < g.teams
  movers_below t e =
      let way = IsLeastClosed-moved_teams.reached t e in
      ltb-true t g.teams (closed_walk (plays_in g k l) (λ x. ltb x g.teams)
      (λ x y step _. lt-ltb y g.teams (plays_in_below g k l x y step)) i way.0 t way.1 (lt-ltb i g.teams in_i))

  pub has-movers : (t : ℕ) → has (set_where g.teams movers) t ≡ movers t
  has-movers = has-set_of_all g.teams movers movers_below

  pub IsOfRounds-part_rounds : IsOfRounds g k l movers
  IsOfRounds-part_rounds = record {
    pair = p;
    below = movers_below;
    some = (i, IsLeastClosed-moved_teams.has_start);
    closed = IsLeastClosed-moved_teams.closed;
  }

  same_movers : moved_teams_of (moved g (PartRounds i k l)) i k l ≡ moved_teams_of g i k l
  same_movers = moved_teams_of_rounds_exchanged g k l movers i

  pub IsItsOwnInverse-part_rounds : fault_of g (PartRounds i k l) ≡ Ok tt → IsItsOwnInverse g (PartRounds i k l)
  IsItsOwnInverse-part_rounds checked = record {
    can_be_made = checked;
    back = ap (λ (xs : List ℕ). rounds_exchanged (moved g (PartRounds i k l)) k l (member xs)) same_movers ∙
        rounds_exchanged_twice g k l movers rr.pairs_alone;
    least_set = same_movers;
    teams = λ t. ap (λ (xs : List ℕ). member xs t) same_movers;
    rounds = λ r. refl;
  }

-- ---- teams

module _ (g : Games) (rr : IsDoubleRoundRobin g) (i j k : ℕ) (known : IsPartTeams g i j k) where
  abbrev pub taken : ℕ → Bool
  taken = member (moved_rounds_of g i j k)

  pub IsLeastClosed-moved_rounds : IsLeastClosed (shares_opponent g i j) k taken
  IsLeastClosed-moved_rounds =
      least_closed_is_least (shares_opponent g i j) (round_count g.teams) k
      (shares_in_range g rr i j known.pair) known.in_range

  -- in none of the rounds i and j meet
  pub taken-apart : (r : ℕ) → taken r ≡ true → are_apart g i j r ≡ true
  taken-apart r is =
      let way = IsLeastClosed-moved_rounds.reached r is in
      closed_walk (shares_opponent g i j) (are_apart g i j) (λ x y step _. are_apart_step g rr i j known.pair x y step)
      k way.0 r way.1 known.apart

  taken_below : (r : ℕ) → taken r ≡ true → r < round_count g.teams
  taken_below r e =
      let way = IsLeastClosed-moved_rounds.reached r e in
      ltb-true r (round_count g.teams) (closed_walk (shares_opponent g i j) (λ x. ltb x (round_count g.teams))
      (λ x y step _. lt-ltb y (round_count g.teams) (shares_in_range g rr i j known.pair x y step)) k way.0 r way.1
      (lt-ltb k (round_count g.teams) known.in_range))

  pub has-taken : (r : ℕ) → has (set_where (round_count g.teams) taken) r ≡ taken r
  has-taken = has-set_of_all (round_count g.teams) taken taken_below

  pub IsOfTeams-part_teams : IsOfTeams g i j taken
  IsOfTeams-part_teams = record {
    pair = known.pair;
    below = taken_below;
    some = (k, IsLeastClosed-moved_rounds.has_start);
    first_out = false_from_ne_true _ (λ e. false≢true (sym (are_apart_first g i j) ∙ taken-apart _ e));
    second_out = false_from_ne_true _ (λ e. false≢true (sym (are_apart_second g i j) ∙ taken-apart _ e));
    closed = IsLeastClosed-moved_rounds.closed;
  }

  stays_taken : StaysAmong g.teams i j taken (round_of g)
  stays_taken = stays_among_closed g i j taken IsOfTeams-part_teams.first_out IsOfTeams-part_teams.second_out
      IsOfTeams-part_teams.closed

  same_taken : moved_rounds_of (moved g (PartTeams i j k)) i j k ≡ moved_rounds_of g i j k
  same_taken = moved_rounds_of_teams_exchanged g i j taken known.pair.home_in known.pair.away_in stays_taken k

  own_first : round_of (moved g (PartTeams i j k)) i j ≡ round_of g i j
  own_first =
      round_of_teams_exchanged g i j taken known.pair.home_in known.pair.away_in stays_taken i j known.pair ∙
      cond-false _ _ _ IsOfTeams-part_teams.first_out

  own_second : round_of (moved g (PartTeams i j k)) j i ≡ round_of g j i
  own_second =
      round_of_teams_exchanged g i j taken known.pair.home_in known.pair.away_in stays_taken j i
      (pair_swapped g.teams i j known.pair) ∙
      cond-false _ _ _ IsOfTeams-part_teams.second_out

  touched_teams-taken : (t : ℕ) → touched_team (moved g (PartTeams i j k)) (PartTeams i j k) t ≡
      touched_team g (PartTeams i j k) t
  touched_teams-taken t =
      ap (λ (xs : List ℕ). touched_of (moved g (PartTeams i j k)) i j (member xs) t) same_taken ∙
      touched_same g i j taken known.pair stays_taken t

  pub IsItsOwnInverse-part_teams : fault_of g (PartTeams i j k) ≡ Ok tt → IsItsOwnInverse g (PartTeams i j k)
  IsItsOwnInverse-part_teams checked = record {
    can_be_made = with_same_meeting g (moved g (PartTeams i j k)) i j k refl own_first own_second checked;
    back = ap (λ (xs : List ℕ). teams_exchanged (moved g (PartTeams i j k)) i j (member xs)) same_taken ∙
        teams_exchanged_twice g i j taken known.pair.home_in known.pair.away_in stays_taken rr.pairs_alone;
    least_set = same_taken;
    teams = touched_teams-taken;
    rounds = λ r. ap (λ (xs : List ℕ). member xs r) same_taken;
  }
