-- The parts of a cost, added up by teams and rounds.
use Rattle.std.proofs.Common.{◌≡◌, ℕ, zero, suc, ◌+◌, ◌-◌, ◌<◌, ◌≤◌, Bool, false, inl, inr, refl, sym, ◌∙◌, arith}
use Rattle.std.specs.Prelude.{if◌then◌else◌}
use Rattle.std.proofs.lemmas.Bool.{cases_Bool, lt-ltb, le-ltb}
use Rattle.league.specs.League.{LeagueData, IsLeague}
use Rattle.league.specs.Sums.{sum_below, count_where}
use Rattle.league.proofs.ForCallers.{sum_below_same, sum_below_past, count_where_same}
use Rattle.fixtures.specs.Games.{Games, round_count, IsDoubleRoundRobin}
use Rattle.tours.specs.Streaks.{windows, is_streak, streaks_of, runs_over}
use Rattle.tours.specs.Repeats.{repeats_after, repeats}
use Rattle.tours.specs.Phased.{is_unphased, unphased}
use Rattle.tours.specs.Tours.{travel, travel_of}
use Rattle.tours.proofs.meetings.HigherTeams.{repeats_at_higher}
use Rattle.costs.specs.declared.cost.Cost.{Cost}
use Rattle.costs.specs.Costs.{cost_of, hard_penalty, near_cost, soft_penalty, sum_over_rules, unless_free, where_phased}
use Rattle.report_text.specs.CostText.{repeats_lower}
use Rattle.report_text.specs.Runs.{ended_streak, is_over, streak}

-- the windows of a team's stretches
abbrev pub window_count : Games → ℕ → ℕ → ℕ
window_count g at_most team = sum_below (round_count g.teams) (ended_streak (is_over g at_most team))

abbrev pub repeat_count : Games → ℕ
repeat_count g = sum_below (round_count g.teams - 1) (λ round. count_where g.teams (repeats_lower g round))

abbrev pub half_count : Games → ℕ
half_count g = sum_below g.teams (λ high. count_where high (λ low. is_unphased g low high))

abbrev pub parts_cost : LeagueData → Games → Cost
parts_cost l g = record {
  travel = sum_below g.teams (travel_of l g);
  hard = sum_below g.teams (window_count g l.at_most) + unless_free l (repeat_count g) + sum_over_rules hard_penalty l.rules g +
      where_phased l (half_count g);
  of_rules = sum_over_rules hard_penalty l.rules g;
  soft = sum_over_rules soft_penalty l.rules g + near_cost l g;
}

-- the streaks that have ended, and the one that goes on, have all numbers that pass
streaks_add_up : (test : ℕ → Bool) (n : ℕ) → sum_below n (ended_streak test) + streak test n ≡ count_where n test
unfolding sum_below
streaks_add_up test zero = refl
streaks_add_up test (suc n) =
    let so_far = streaks_add_up test n in
    elim (cases_Bool (test n)) [ inl e ↦ rw e (omega arith) | inr e ↦ rw e (omega arith) ]

-- no streak goes on after a number that doesn't pass
no_streak : (test : ℕ → Bool) (n : ℕ) → test n ≡ false → streak test (suc n) ≡ 0
no_streak test n e = rw e refl

past : (g : Games) (at_most team first : ℕ) → windows g (at_most + 1) ≤ first → is_over g at_most team first ≡ false
past g at_most team first e = rw (le-ltb first (windows g (at_most + 1)) e) refl

inside : (g : Games) (at_most team first : ℕ) → first < windows g (at_most + 1) →
    is_over g at_most team first ≡ is_streak g team first (at_most + 1)
inside g at_most team first e = rw (lt-ltb first (windows g (at_most + 1)) e) refl

-- of a season of at least one round
runs_told : (g : Games) (at_most team n : ℕ) → 1 ≤ at_most → 1 ≤ n → n ≡ round_count g.teams
    → sum_below n (ended_streak (is_over g at_most team)) ≡ count_where n (is_over g at_most team)
runs_told g at_most team zero some rounds season = absurd (omega arith)
runs_told g at_most team (suc k) some rounds season =
    let none = no_streak (is_over g at_most team) k (past g at_most team k (omega arith)) in
    omega (arith, none, streaks_add_up (is_over g at_most team) (suc k))

counted_once : (g : Games) (at_most team : ℕ) → 1 ≤ at_most →
    count_where (round_count g.teams) (is_over g at_most team) ≡ streaks_of g at_most team
unfolding streaks_of
counted_once g at_most team some =
    sum_below_past (windows g (at_most + 1)) (round_count g.teams) (λ f. if is_over g at_most team f then 1 else 0) (omega arith)
    (λ f beyond below. rw (past g at_most team f beyond) refl) ∙
    count_where_same (windows g (at_most + 1)) (is_over g at_most team) (λ f. is_streak g team f (at_most + 1)) (inside g at_most team)

windows_add_up : (g : Games) (at_most team : ℕ) → 1 ≤ at_most → 1 ≤ round_count g.teams →
    window_count g at_most team ≡ streaks_of g at_most team
windows_add_up g at_most team some rounds = runs_told g at_most team (round_count g.teams) some rounds refl ∙
    counted_once g at_most team some

repeats_add_up : (g : Games) → repeat_count g ≡ repeats g
unfolding repeats repeats_after
repeats_add_up g =
    sum_below_same (round_count g.teams - 1) _ _
    (λ r r_in. sum_below_same g.teams _ _ (λ t t_in. sym (repeats_at_higher g t r _ _ refl refl)))

pub parts_add_up : (l : LeagueData) (g : Games) → IsLeague l → IsDoubleRoundRobin g → parts_cost l g ≡ cost_of l g
unfolding cost_of travel runs_over unphased
parts_add_up l g is_league is_round_robin =
    let four = is_round_robin.four in
    let runs : sum_below g.teams (window_count g l.at_most) ≡ runs_over g l.at_most =
    sum_below_same g.teams _ _ (λ t t_in. windows_add_up g l.at_most t is_league.at_most_least (omega arith)) in
    rw (runs, repeats_add_up g) refl
