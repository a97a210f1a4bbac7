-- The laws of the moves of homes, of rounds and of teams.
use Rattle.std.proofs.Common.{◌≡◌, ◌≢◌, ℕ, ◌<◌, inl, inr, Bool, true, not, ◌&&◌, ◌||◌, eqb, ltb, refl, sym, ◌∙◌, ap, ap₂, subst, Ok, arith}
use Rattle.std.proofs.Math.Bool.{or_comm}
use Rattle.std.proofs.lemmas.Bool.{cases_eq, cond-true, and_from, and_parts, and_right, or_left, or_right}
use Rattle.std.proofs.lemmas.Bool.{or_from, eq-eqb, ne_eqb, lt-ltb, ltb-true, not_from_false}
use Rattle.league.specs.Sets.{has}
use Rattle.fixtures.specs.Games.{Games, round_of, round_count, IsPair, IsDoubleRoundRobin}
use Rattle.fixtures.specs.Exchanges.{IsOfRounds, IsOfTeams}
use Rattle.fixtures.specs.Edits.{exchanged, homes_exchanged, rounds_exchanged, teams_exchanged, all_games_exchanged}
use Rattle.fixtures.proofs.ForCallers.{pair_swapped, distinct_rounds, round_of_games, games_ext, plays_in_parts}
use Rattle.fixtures.proofs.ForCallers.{rounds_exchanged_twice, round_of_homes_exchanged, homes_exchanged_twice, IsTwo}
use Rattle.fixtures.proofs.ForCallers.{is_closed_two, homes_rounds_exchanged, stays_among_closed, StaysAmong}
use Rattle.fixtures.proofs.ForCallers.{teams_exchanged_twice, round_robin_teams_exchanged, are_apart, are_apart_first, two_below}
use Rattle.fixtures.proofs.ForCallers.{are_apart_second, are_apart_step, shares_in_range, all_games_exchanged_rounds}
use Rattle.moves.specs.declared.moves.Move.TheVariants.{Homes, Rounds, Teams}
use Rattle.moves.specs.Moves.{fault_of}
use Rattle.moves.specs.ExchangeOf.{rounds_apart as set_apart}
use Rattle.moves.specs.Laws.{IsItsOwnInverse}
use Rattle.moves.proofs.Sets.{has-set_where}

-- one of the first three numbers is neither of two
third_number : (k l : ℕ) → (r : ℕ) × (r < 3) × (r ≢ k) × (r ≢ l)
third_number k l =
    elim (cases_eq 0 k) [
      | inl e ↦ elim (cases_eq 1 l) [
        | inl f ↦ (2, omega arith, λ h. absurd (omega arith), λ h. absurd (omega arith))
        | inr f ↦ (1, omega arith, λ h. absurd (omega arith), f)
      ]
      | inr e ↦ elim (cases_eq 0 l) [
        | inl f ↦ elim (cases_eq 1 k) [
          | inl h ↦ (2, omega arith, λ o. absurd (omega arith), λ o. absurd (omega arith))
          | inr h ↦ (1, omega arith, h, λ o. absurd (omega arith))
        ]
        | inr f ↦ (0, omega arith, e, f)
      ]
    ]

-- ---- homes

module _ (g : Games) (rr : IsDoubleRoundRobin g) (i j : ℕ) (p : IsPair g.teams i j) where
  abbrev two : ℕ → Bool
  two t = eqb t i || eqb t j

  is_two : IsTwo i j two
  is_two = record {
    first = or_left (eqb i i) (eqb i j) (eq-eqb i i refl);
    second = or_right (eqb j i) (eqb j j) (eq-eqb j j refl);
    others = λ t not_i not_j. or_from (eqb t i) (eqb t j) (ne_eqb t i not_i) (ne_eqb t j not_j);
  }

  pub IsOfRounds-homes : IsOfRounds g (round_of g i j) (round_of g j i) two
  IsOfRounds-homes = record {
    pair = record {
      home_in = rr.in_range i j p;
      away_in = rr.in_range j i (pair_swapped g.teams i j p);
      distinct = distinct_rounds g rr i j p;
    };
    below = two_below g.teams i j p;
    some = (i, is_two.first);
    closed = is_closed_two g rr i j p two is_two;
  }

  pub as_rounds : rounds_exchanged g (round_of g i j) (round_of g j i) two ≡ homes_exchanged g i j
  as_rounds = homes_rounds_exchanged g rr i j p two is_two

  here : round_of (homes_exchanged g i j) i j ≡ round_of g j i
  here =
      round_of_homes_exchanged g i j i j p ∙
      cond-true _ _ _ (or_left _ _ (and_from (eqb i i) (eqb j j) (eq-eqb i i refl) (eq-eqb j j refl)))

  there : round_of (homes_exchanged g i j) j i ≡ round_of g i j
  there =
      round_of_homes_exchanged g i j j i (pair_swapped g.teams i j p) ∙
      cond-true _ _ _ (or_right (eqb j i && eqb i j) _
      (and_from (eqb j j) (eqb i i) (eq-eqb j j refl) (eq-eqb i i refl)))

  pub IsItsOwnInverse-homes : fault_of g (Homes i j) ≡ Ok tt → IsItsOwnInverse g (Homes i j)
  IsItsOwnInverse-homes checked = record {
    can_be_made = checked;
    back = homes_exchanged_twice g i j rr.pairs_alone;
    least_set = tt;
    teams = λ t. refl;
    rounds = λ r. ap₂ (λ x y. eqb r x || eqb r y) here there ∙
        or_comm (eqb r (round_of g j i)) (eqb r (round_of g i j));
  }

-- ---- rounds

module _ (g : Games) (rr : IsDoubleRoundRobin g) (k l : ℕ) (p : IsPair (round_count g.teams) k l) where
  -- for all teams below n
  pub IsOfRounds-rounds : IsOfRounds g k l (λ t. ltb t g.teams)
  IsOfRounds-rounds = record {
    pair = p;
    below = λ t e. ltb-true t g.teams e;
    some = (0, lt-ltb 0 g.teams (omega (arith, rr.four)));
    closed = λ t u plays _. lt-ltb u g.teams (plays_in_parts g k l t u plays).0.away_in;
  }

  pub of_all_teams : rounds_exchanged g k l (λ _. true) ≡ rounds_exchanged g k l (λ t. ltb t g.teams)
  of_all_teams =
      games_ext g.teams _ _
      (λ h a q. sym (cond-true (ltb h g.teams) (exchanged k l (round_of g h a)) (round_of g h a)
      (lt-ltb h g.teams q.home_in)))

  pub IsItsOwnInverse-rounds : fault_of g (Rounds k l) ≡ Ok tt → IsItsOwnInverse g (Rounds k l)
  IsItsOwnInverse-rounds checked = record {
    can_be_made = checked;
    back = rounds_exchanged_twice g k l (λ _. true) rr.pairs_alone;
    least_set = tt;
    teams = λ t. refl;
    rounds = λ r. refl;
  }

-- ---- teams

module _ (g : Games) (rr : IsDoubleRoundRobin g) (i j : ℕ) (p : IsPair g.teams i j) where
  -- the rounds in which they don't meet
  abbrev pub apart : ℕ → Bool
  apart r = ltb r (round_count g.teams) && are_apart g i j r

  apart-same : (r : ℕ) → r < round_count g.teams → apart r ≡ are_apart g i j r
  apart-same r below = ap (λ b. b && are_apart g i j r) (lt-ltb r (round_count g.teams) below)

  pub has-apart : (r : ℕ) → has (set_apart g i j) r ≡ apart r
  has-apart r = has-set_where (round_count g.teams) (are_apart g i j) r

  -- some round in which they don't meet
  some_apart : (r : ℕ) × (apart r ≡ true)
  some_apart =
      let found = third_number (round_of g i j) (round_of g j i) in (
        found.0,
        and_from _ _ (lt-ltb found.0 (round_count g.teams) (omega (arith, found.1, rr.four)))
            (not_from_false _ (or_from _ _ (ne_eqb found.0 (round_of g i j) found.2)
            (ne_eqb found.0 (round_of g j i) found.3))),
      )

  pub IsOfTeams-teams : IsOfTeams g i j apart
  IsOfTeams-teams = record {
    pair = p;
    below = λ r e. ltb-true r (round_count g.teams) (and_parts (ltb r (round_count g.teams)) (are_apart g i j r) e).0;
    some = some_apart;
    first_out = and_right _ _ (are_apart_first g i j);
    second_out = and_right _ _ (are_apart_second g i j);
    closed = λ r s step _.
        and_from _ _ (lt-ltb s (round_count g.teams) (shares_in_range g rr i j p r s step))
        (are_apart_step g rr i j p r s step);
  }

  stays_apart : StaysAmong g.teams i j apart (round_of g)
  stays_apart = stays_among_closed g i j apart IsOfTeams-teams.first_out IsOfTeams-teams.second_out
      IsOfTeams-teams.closed

  pub all_rounds : all_games_exchanged g i j ≡ teams_exchanged g i j apart
  all_rounds = all_games_exchanged_rounds g rr i j p apart apart-same

  IsDoubleRoundRobin-teams : IsDoubleRoundRobin (all_games_exchanged g i j)
  IsDoubleRoundRobin-teams =
      subst IsDoubleRoundRobin (sym all_rounds)
      (round_robin_teams_exchanged g rr i j apart p.home_in p.away_in stays_apart)

  own_first : round_of (all_games_exchanged g i j) i j ≡ round_of g i j
  own_first =
      round_of_games g.teams _ i j p ∙
      cond-true _ _ _ (or_left _ _ (and_from (eqb i i) (eqb j j) (eq-eqb i i refl) (eq-eqb j j refl)))

  own_second : round_of (all_games_exchanged g i j) j i ≡ round_of g j i
  own_second =
      round_of_games g.teams _ j i (pair_swapped g.teams i j p) ∙
      cond-true _ _ _ (or_right (eqb j i && eqb i j) _
      (and_from (eqb j j) (eqb i i) (eq-eqb j j refl) (eq-eqb i i refl)))

  still_apart : (r : ℕ) → are_apart (all_games_exchanged g i j) i j r ≡ are_apart g i j r
  still_apart r = ap₂ (λ x y. not (eqb r x || eqb r y)) own_first own_second

  pub all_games_exchanged-twice : all_games_exchanged (all_games_exchanged g i j) i j ≡ g
  all_games_exchanged-twice =
      all_games_exchanged_rounds (all_games_exchanged g i j) IsDoubleRoundRobin-teams i j p apart
      (λ r below. apart-same r below ∙ sym (still_apart r)) ∙
      ap (λ (x : Games). teams_exchanged x i j apart) all_rounds ∙
      teams_exchanged_twice g i j apart p.home_in p.away_in stays_apart rr.pairs_alone

  pub IsItsOwnInverse-teams : fault_of g (Teams i j) ≡ Ok tt → IsItsOwnInverse g (Teams i j)
  IsItsOwnInverse-teams checked = record {
    can_be_made = checked;
    back = all_games_exchanged-twice;
    least_set = tt;
    teams = λ t. refl;
    rounds = λ r. ap (λ b. ltb r (round_count g.teams) && b) (still_apart r);
  }
