-- The start of a league: a double round robin, in which each pair has its round.
use Rattle.std.proofs.Common.{◌≡◌, ℕ, ◌%◌, ◌≤◌, ◌&&◌, ◌==◌, true, inl, inr, arith, sym, ◌∙◌, ap, subst}
use Rattle.std.proofs.lemmas.Bool.{false≢true, or_cases, and_parts, eqb-true}
use Rattle.std.proofs.lemmas.List.{length-replicate, length-set}
use Rattle.fixtures.specs.Games.{Games, games, round_of, IsDoubleRoundRobin, IsPair}
use Rattle.fixtures.proofs.ForCallers.{round_of_games, round_robin_berger, round_robin_fide}
use Rattle.sets.specs.Limits.{max_teams}
use Rattle.sets.specs.Pairs.{seconds_of, has_pair, no_pairs, with_pair}
use Rattle.sets.specs.Sets.{with_number}
use Rattle.sets.proofs.ForCallers.{has_no_pairs, has_with_pair}
use Rattle.league.specs.declared.origins.Start.{Start}
use Rattle.league.specs.declared.origins.Start.TheVariants.{Berger, Fide, Given}
use Rattle.league.specs.League.{LeagueData, teams, IsLeague}
use Rattle.league.specs.within.League.{with_origin}
use Rattle.league.specs.Limits.{max_weight}
use Rattle.league.specs.Origins.{OriginData, origin_data, origin_at, round_at_start, IsStartFor, IsOriginFor}
use Rattle.league.specs.Starts.{start_round, start_of, keeps}

-- a given schedule is the games of its rounds
pub given_is : (n : ℕ) (g : Games) → IsStartFor n (Given g) → games n (λ home away. round_at_start n (Given g) home away) ≡ g
given_is n g is = ap (λ m. games m (round_of g)) (sym is.1) ∙ sym is.0.pairs_alone

round_robin_at : (n : ℕ) (start : Start) → n % 2 ≡ 0 → 4 ≤ n → n ≤ max_teams → IsStartFor n start →
    IsDoubleRoundRobin (games n (λ home away. round_at_start n start home away))
round_robin_at n Berger even four most fits = round_robin_berger n even four most
round_robin_at n Fide even four most fits = round_robin_fide n even four most
round_robin_at n (Given g) even four most fits = subst IsDoubleRoundRobin (sym (given_is n g fits)) fits.0

pub round_robin_start : (l : LeagueData) → IsLeague l → IsDoubleRoundRobin (start_of l)
round_robin_start l is =
    round_robin_at (teams l) l.origin.start is.table.even is.table.least is.table.most is.origin.start

pub round_of_start : (l : LeagueData) (home away : ℕ) → IsPair (teams l) home away → round_of (start_of l) home away ≡ start_round l home away
round_of_start l home away pair = round_of_games (teams l) (λ h a. start_round l h a) home away pair

-- a game that is kept is one of two distinct teams
pub kept_pair : (l : LeagueData) (home away : ℕ) → IsLeague l → keeps l home away ≡ true → IsPair (teams l) home away
kept_pair l home away is kept = is.origin.kept home away kept

-- a start with nothing kept
pub origin_for_none : (n : ℕ) (start : Start) → IsStartFor n start → IsOriginFor n (origin_at start)
origin_for_none n start fits = record {
  start = fits;
  rows = length-replicate {A = ℕ} max_teams 0;
  kept = λ home away is. absurd (false≢true (sym (has_no_pairs home away) ∙ is));
  near = omega arith;
}

-- a given start with nothing kept
pub origin_for_given : (n : ℕ) (g : Games) (near : ℕ) → IsDoubleRoundRobin g → g.teams ≡ n → near ≤ max_weight →
    IsOriginFor n (origin_data (Given g) no_pairs near)
origin_for_given n g near robin size most = record {
  start = (robin, size);
  rows = length-replicate {A = ℕ} max_teams 0;
  kept = λ home away is. absurd (false≢true (sym (has_no_pairs home away) ∙ is));
  near = most;
}

pub IsLeague-with : (l : LeagueData) (o : OriginData) → IsLeague l → IsOriginFor (teams l) o → IsLeague (with_origin o l)
IsLeague-with l o is fits = record {
  table = is.table;
  at_most_least = is.at_most_least;
  at_most_most = is.at_most_most;
  weight_least = is.weight_least;
  weight_most = is.weight_most;
  names = is.names;
  rule_count = is.rule_count;
  rules = is.rules;
  origin = fits;
  labels = is.labels;
}

-- one game more is kept
pub origin_keeping : (n : ℕ) (o : OriginData) (home away : ℕ) → n ≤ max_teams → IsPair n home away → IsOriginFor n o →
    IsOriginFor n (origin_data o.start (with_pair o.kept home away) o.near)
origin_keeping n o home away most pair is = record {
  start = is.start;
  rows = length-set o.kept home (with_number (seconds_of o.kept home) away) ∙ is.rows;
  kept = λ h a has.
      elim (or_cases ((h == home) && (a == away)) (has_pair o.kept h a)
      (sym (has_with_pair o.kept home away h a (omega (arith, is.rows, pair.home_in))) ∙ has)) [
        | inl one ↦
            let parts = and_parts (h == home) (a == away) one in
            rw (eqb-true h home parts.0, eqb-true a away parts.1) pair
        | inr other ↦ is.kept h a other
      ];
  near = is.near;
}
