-- A team visits each opponent once.
use Rattle.std.proofs.Common.{◌≡◌, ◌≢◌, ℕ, ◌+◌, ◌-◌, ◌<◌, ◌≤◌, ◌==◌, ◌&&◌, not, Bool, true, false, if◌then◌else◌}
use Rattle.std.proofs.Common.{refl, sym, ◌∙◌, ap, inl, inr, arith}
use Rattle.std.proofs.lemmas.Bool.{cases_eq, cases_lt, cases_Bool, cond-true, cond-false, eq-eqb, eqb-true, ne_eqb, and_parts, and_left, and_right, and_from, not-true}
use Rattle.sets.specs.Limits.{round_count}
use Rattle.sets.specs.Sums.{sum_below}
use Rattle.sets.proofs.ForCallers.{sum_below_more, sum_below_same, sum_below_swap, sum_below_only, sum_below_zero}
use Rattle.fixtures.specs.declared.game.Cell.{Cell}
use Rattle.fixtures.specs.Games.{Games, IsDoubleRoundRobin, IsPair, cell, place, stop, round_of}
use Rattle.fixtures.proofs.ForCallers.{is_cell, stop_first, stop_last, stop_between}
use Rattle.bounds.proofs.Ways.{VisitsEach}

abbrev count : Bool → ℕ
count b = if b then 1 else 0

-- where a team plays

place_home : (g : Games) (i r : ℕ) → (cell g i r).home ≡ true → place g i r ≡ i
unfolding place
place_home g i r at_home = cond-true (cell g i r).home i (cell g i r).opponent at_home

place_away : (g : Games) (i r : ℕ) → (cell g i r).home ≡ false → place g i r ≡ (cell g i r).opponent
unfolding place
place_away g i r away = cond-false (cell g i r).home i (cell g i r).opponent away

-- a team that receives another in a round is where that is
guest_cell : (g : Games) → IsDoubleRoundRobin g → (i j r : ℕ) → i < g.teams → j < g.teams → j ≢ i → round_of g j i ≡ r →
    cell g i r ≡ record { opponent = j; home = false }
guest_cell g is i j r i_in j_in other at_r =
    let pair : IsPair g.teams j i = record { home_in = j_in; away_in = i_in; distinct = other } in
    let in_r : r < round_count g.teams = omega (arith, is.in_range j i pair, at_r) in
    is.once i r (cell g i r) (record { opponent = j; home = false }) (is_cell g is i r i_in in_r)
    (record { pair = record { home_in = i_in; away_in = j_in; distinct = λ e. other (sym e) }; in_round = at_r })

-- so away its place tells the round
round_away : (g : Games) → IsDoubleRoundRobin g → (i r : ℕ) → i < g.teams → r < round_count g.teams → (cell g i r).home ≡ false →
    round_of g (cell g i r).opponent i ≡ r
round_away g is i r i_in in_r away =
    sym (cond-false (cell g i r).home (round_of g i (cell g i r).opponent) (round_of g (cell g i r).opponent i) away) ∙
    (is_cell g is i r i_in in_r).in_round

-- whether a team receives another in a round
receives : Games → ℕ → ℕ → ℕ → Bool
receives g i j r = not (j == i) && round_of g j i == r

receives_cell : (g : Games) → IsDoubleRoundRobin g → (i j r : ℕ) → i < g.teams → j < g.teams → receives g i j r ≡ true →
    cell g i r ≡ record { opponent = j; home = false }
unfolding receives
receives_cell g is i j r i_in j_in passes =
    let parts = and_parts (not (j == i)) (round_of g j i == r) passes in
    let other : j ≢ i = λ e. cc (eq-eqb j i e, not-true (j == i) parts.0) in
    guest_cell g is i j r i_in j_in other (eqb-true (round_of g j i) r parts.1)

-- what passes in a round, counted by the teams that may receive
one_round : (g : Games) → IsDoubleRoundRobin g → (i : ℕ) → i < g.teams → (test : ℕ → Bool) → test i ≡ false → (r : ℕ) →
    r < round_count g.teams →
    (if test (place g i r) then 1 else 0) ≡ sum_below g.teams (λ j. if receives g i j r && test j then 1 else 0)
unfolding receives
one_round g is i i_in test not_home r in_r = elim (cases_Bool (cell g i r).home) [
  | inl at_home ↦
      cond-false {A = ℕ} (test (place g i r)) 1 0 (ap test (place_home g i r at_home) ∙ not_home) ∙
      sym (sum_below_zero g.teams (λ j. if receives g i j r && test j then 1 else 0)
      (λ j j_in. none j (λ passes. cc (ap (λ (c : Cell). c.home) (receives_cell g is i j r i_in j_in passes), at_home))))
  | inr away ↦
      let o : ℕ = (cell g i r).opponent in
      let pair = (is_cell g is i r i_in in_r).pair in
      let here : receives g i o r ≡ true =
      and_from (not (o == i)) (round_of g o i == r) (ap not (ne_eqb o i (λ e. pair.distinct (sym e))))
      (eq-eqb (round_of g o i) r (round_away g is i r i_in in_r away)) in
      ap (λ p. count (test p)) (place_away g i r away) ∙
      sym (sum_below_only g.teams o (λ j. if receives g i j r && test j then 1 else 0) pair.away_in
      (λ j j_in other. none j (λ passes. other (sym (ap (λ (c : Cell). c.opponent) (receives_cell g is i j r i_in j_in passes))))) ∙
      ap (λ b. count (b && test o)) here)
]
  where
    none : (j : ℕ) → (receives g i j r ≡ true → ⊥) → count (receives g i j r && test j) ≡ 0
    none j never = elim (cases_Bool (receives g i j r)) [
      | inl passes ↦ absurd (never passes)
      | inr fails ↦ cond-false {A = ℕ} (receives g i j r && test j) 1 0 (and_left (receives g i j r) (test j) fails)
    ]

-- what passes of a team, counted by its rounds
one_team : (g : Games) → IsDoubleRoundRobin g → (i : ℕ) → i < g.teams → (test : ℕ → Bool) → test i ≡ false → (j : ℕ) → j < g.teams →
    sum_below (round_count g.teams) (λ r. if receives g i j r && test j then 1 else 0) ≡ (if test j then 1 else 0)
unfolding receives
one_team g is i i_in test not_home j j_in = elim (cases_eq j i) [
  | inl same ↦
      let fails : test j ≡ false = ap test same ∙ not_home in
      sum_below_zero (round_count g.teams) (λ r. if receives g i j r && test j then 1 else 0)
      (λ r in_r. cond-false {A = ℕ} (receives g i j r && test j) 1 0 (and_right (receives g i j r) (test j) fails)) ∙
      sym (cond-false {A = ℕ} (test j) 1 0 fails)
  | inr other ↦
      let pair : IsPair g.teams j i = record { home_in = j_in; away_in = i_in; distinct = other } in
      let here : receives g i j (round_of g j i) ≡ true =
      and_from (not (j == i)) (round_of g j i == round_of g j i) (ap not (ne_eqb j i other)) (eq-eqb _ _ refl) in
      sum_below_only (round_count g.teams) (round_of g j i) (λ r. if receives g i j r && test j then 1 else 0) (is.in_range j i pair)
      (λ r in_r later. cond-false {A = ℕ} (receives g i j r && test j) 1 0 (and_left (receives g i j r) (test j)
      (and_right (not (j == i)) (round_of g j i == r) (ne_eqb (round_of g j i) r (λ e. later (sym e)))))) ∙
      ap (λ b. count (b && test j)) here
]

pub visits_each : (g : Games) → IsDoubleRoundRobin g → (i : ℕ) → i < g.teams → VisitsEach g.teams i (round_count g.teams) (stop g i)
visits_each g is i i_in test not_home =
    sum_below_more rounds (λ r. if test (stop g i (r + 1)) then 1 else 0) ∙
    omega (arith, cond-false {A = ℕ} (test (stop g i (rounds + 1))) 1 0 (ap test (stop_last g i (rounds + 1) (omega arith)) ∙ not_home)) ∙
    sum_below_same rounds (λ r. if test (stop g i (r + 1)) then 1 else 0)
    (λ r. sum_below g.teams (λ j. if receives g i j r && test j then 1 else 0))
    (λ r in_r. ap (λ p. count (test p)) (between r in_r) ∙ one_round g is i i_in test not_home r in_r) ∙
    sum_below_swap rounds g.teams (λ r j. if receives g i j r && test j then 1 else 0) ∙
    sum_below_same g.teams (λ j. sum_below rounds (λ r. if receives g i j r && test j then 1 else 0)) (λ j. if test j then 1 else 0)
    (λ j j_in. one_team g is i i_in test not_home j j_in)
  where
    rounds : ℕ
    rounds = round_count g.teams

    between : (r : ℕ) → r < round_count g.teams → stop g i (r + 1) ≡ place g i r
    between r in_r = stop_between g i (r + 1) (omega arith) (omega arith) ∙ ap (place g i) (omega arith)

-- a stop away from home is between the first and the last
pub away_between : (g : Games) (i q : ℕ) → stop g i q ≢ i → (0 < q) × (q ≤ round_count g.teams)
away_between g i q away = elim (cases_eq q 0) [
  | inl first ↦ absurd (away (stop_first g i q first))
  | inr some ↦ elim (cases_lt (round_count g.teams) q) [
    | inl after ↦ absurd (away (stop_last g i q after))
    | inr within ↦ (omega arith, within)
  ]
]

-- and the team is a guest there
pub away_cell : (g : Games) → IsDoubleRoundRobin g → (i q : ℕ) → i < g.teams → stop g i q ≢ i →
    ((cell g i (q - 1)).home ≡ false) × (stop g i q ≡ (cell g i (q - 1)).opponent)
away_cell g is i q i_in away =
    let in_q = away_between g i q away in
    let at : stop g i q ≡ place g i (q - 1) = stop_between g i q in_q.0 in_q.1 in
    elim (cases_Bool (cell g i (q - 1)).home) [
      | inl at_home ↦ absurd (away (at ∙ place_home g i (q - 1) at_home))
      | inr guest ↦ (guest, at ∙ place_away g i (q - 1) guest)
    ]

-- so it tells its index
index_of_stop : (g : Games) → IsDoubleRoundRobin g → (i q : ℕ) → i < g.teams → stop g i q ≢ i → round_of g (stop g i q) i + 1 ≡ q
index_of_stop g is i q i_in away =
    let in_q = away_between g i q away in
    let as_guest = away_cell g is i q i_in away in
    omega (
      arith,
      ap (λ j. round_of g j i) as_guest.1,
      round_away g is i (q - 1) i_in (omega (arith, in_q.0, in_q.1)) as_guest.0,
      in_q.0,
    )

pub stops_once : (g : Games) → IsDoubleRoundRobin g → (i : ℕ) → i < g.teams → (q r : ℕ) → stop g i q ≡ stop g i r → stop g i q ≢ i →
    q ≡ r
stops_once g is i i_in q r same away =
    sym (index_of_stop g is i q i_in away) ∙ ap (λ j. round_of g j i + 1) same ∙
    index_of_stop g is i r i_in (λ home. away (same ∙ home))

pub stops_below : (g : Games) → IsDoubleRoundRobin g → (i : ℕ) → i < g.teams → (q : ℕ) → stop g i q < g.teams
stops_below g is i i_in q = elim (cases_eq (stop g i q) i) [
  | inl at_home ↦ omega arith
  | inr away ↦
      let in_q = away_between g i q away in
      omega (
        arith,
        (away_cell g is i q i_in away).1,
        (is_cell g is i (q - 1) i_in (omega (arith, in_q.0, in_q.1))).pair.away_in,
      )
]

-- a stop at home is a game at home
pub stop_at_home : (g : Games) → IsDoubleRoundRobin g → (i q : ℕ) → i < g.teams → q < round_count g.teams → stop g i (q + 1) ≡ i →
    (cell g i q).home ≡ true
stop_at_home g is i q i_in in_q at_home = elim (cases_Bool (cell g i q).home) [
  | inl home ↦ home
  | inr away ↦
      let at : stop g i (q + 1) ≡ place g i q =
      stop_between g i (q + 1) (omega arith) (omega arith) ∙ ap (place g i) (omega arith) in
      absurd ((is_cell g is i q i_in in_q).pair.distinct (sym at_home ∙ at ∙ place_away g i q away))
]
