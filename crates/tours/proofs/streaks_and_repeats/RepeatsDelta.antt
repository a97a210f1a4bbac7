-- The repeats after an exchange, predicted by the meetings before it.
use Rattle.std.proofs.Common.{◌≡◌, ℕ, ◌+◌, ◌-◌, ◌<◌, ◌≤◌, ◌≢◌, Bool, true, false, ◌||◌, inl, inr, refl, sym, ◌∙◌, ap, ap₂, arith}
use Rattle.std.specs.Prelude.{◌==◌, nat_lt, if◌then◌else◌}
use Rattle.std.proofs.lemmas.Bool.{cases_Bool, cond-true, cond-false, eq-eqb, eqb-true, ne_eqb}
use Rattle.std.proofs.lemmas.Bool.Decides.{nat_tests}
use Rattle.std.proofs.Math.Path.{fun_ext}
use Rattle.league.specs.Sums.{sum_below, sum_where}
use Rattle.league.proofs.ForCallers.{sum_below_more, sum_below_same, sum_below_swap, sum_below_balance}
use Rattle.fixtures.specs.declared.game.Cell.{Cell}
use Rattle.fixtures.specs.Games.{Games, round_count, cell, IsPair, IsDoubleRoundRobin}
use Rattle.fixtures.specs.Edits.{exchanged, rounds_exchanged}
use Rattle.fixtures.specs.Closed.{IsClosed, plays_in}
use Rattle.fixtures.proofs.ForCallers.{exchanged_other, exchanged_lt, cell_rounds_exchanged, round_robin_rounds_exchanged}
use Rattle.tours.specs.Repeats.{repeats, repeats_after}
use Rattle.tours.specs.Parts.{touches_leg}
use Rattle.tours.specs.Tours.{leg_count}
use Rattle.tours.specs.within.Delta.{legs_around, met, same_lower, repeats_around}
use Rattle.tours.proofs.balances.Balances.{where_balance}
use Rattle.tours.proofs.exchanged_legs.ExchangedTours.{exchanged_next}
use Rattle.tours.proofs.meetings.Opponents.{opponent_in}
use Rattle.tours.proofs.exchanged_legs.OwnLegs.{first_leg}
use Rattle.tours.proofs.exchanged_legs.RoundsDelta.{exchanged_terms, exchanged_swapped, legs_touched, stop_same, touches_two, two_rounds}
use Rattle.tours.proofs.exchanged_legs.RoundsDelta.{two_before, two_after, neighbours_before, neighbours_after}
use Rattle.tours.proofs.meetings.HigherTeams.{at_higher, repeats_after_higher}

-- all terms between stops change by as much as those around the two rounds that are exchanged

untouched : (r k m : ℕ) → (r == k || (r == k + 1 || (r == m || (r == m + 1 || false)))) ≡ false →
    (exchanged (k + 1) (m + 1) r ≡ r) × (exchanged (k + 1) (m + 1) (r + 1) ≡ r + 1)
untouched r k m out = (
  exchanged_other (k + 1) (m + 1) r (λ e. absurd (grind (arith, nat_tests))) (λ e. absurd (grind (arith, nat_tests))),
  exchanged_other (k + 1) (m + 1) (r + 1) (λ e. absurd (grind (arith, nat_tests))) (λ e. absurd (grind (arith, nat_tests))),
)

sum_swapped : (old new : ℕ) → new + old ≡ old + new
sum_swapped old new = omega arith

terms_balance : (g : Games) (between : ℕ → ℕ → ℕ) (k m : ℕ) → k < m → m < round_count g.teams →
    sum_below (leg_count g) (exchanged_terms between k m) + legs_around (λ r. between r (r + 1)) k m ≡
    sum_below (leg_count g) (λ r. between r (r + 1)) + legs_around (exchanged_terms between k m) k m
unfolding touches_leg
terms_balance g between k m ordered in_m =
    ap (λ x. sum_below (leg_count g) (exchanged_terms between k m) + x)
    (sym (legs_touched g (λ r. between r (r + 1)) k m ordered in_m)) ∙
    sum_below_balance (leg_count g) (exchanged_terms between k m) (λ r. between r (r + 1))
    (λ r. if touches_leg g (two_rounds k m) r then exchanged_terms between k m r else 0)
    (λ r. if touches_leg g (two_rounds k m) r then between r (r + 1) else 0)
    (λ r in_r. where_balance (touches_leg g (two_rounds k m) r) (touches_leg g (two_rounds k m) r) _ _ _ _ refl
    (λ _. sum_swapped (between r (r + 1)) (exchanged_terms between k m r))
    (λ out.
    let stops = untouched r k m (sym (touches_two r k m (round_count g.teams) (omega arith) in_m) ∙ out) in
    ap₂ between stops.0 stops.1)) ∙
    ap (λ x. sum_below (leg_count g) (λ r. between r (r + 1)) + x) (legs_touched g (exchanged_terms between k m) k m ordered in_m)

-- no term changes where the two are the same
but_where_same : (same : Bool) (new old part_old part_new : ℕ) → (same ≡ true → new ≡ old) → new + part_old ≡ old + part_new →
    new + (if same then 0 else part_old) ≡ old + (if same then 0 else part_new)
but_where_same true new old part_old part_new stays balance = ap (λ x. x + 0) (stays refl)
but_where_same false new old part_old part_new stays balance = balance

-- how often a team meets a lower team twice in a row
abbrev of_team : Games → (ℕ → ℕ) → ℕ → ℕ
of_team g meets t = sum_below (leg_count g) (λ r. same_lower t (meets r) (meets (r + 1)))

team_balance : (g : Games) (meets : ℕ → ℕ) (t k m : ℕ) → k < m → m < round_count g.teams →
    of_team g (λ r. meets (exchanged (k + 1) (m + 1) r)) t + repeats_around meets (λ r. r) t k m ≡
    of_team g meets t + repeats_around meets (exchanged (k + 1) (m + 1)) t k m
team_balance g meets t k m ordered in_m =
    but_where_same (meets (k + 1) == meets (m + 1)) _ _ _ _
    (λ same. ap (λ (f : ℕ → ℕ). of_team g f t) (fun_ext (λ r. stop_same meets k m r (eqb-true _ _ same))))
    (terms_balance g (λ a b. same_lower t (meets a) (meets b)) k m ordered in_m)

-- repeats, team by team

met_between : (g : Games) (t r : ℕ) → r < round_count g.teams → met g t (r + 1) ≡ (cell g t r).opponent
met_between g t r in_r =
    let back : r + 1 - 1 ≡ r = omega arith in
    cond-false _ _ _ within ∙ ap (λ x. (cell g t x).opponent) back
  where
    within : (r + 1 == 0 || nat_lt (round_count g.teams) (r + 1)) ≡ false
    within = grind (arith, nat_tests)

pub met_cell : (g : Games) (t r : ℕ) (c : Cell) → r < round_count g.teams → c ≡ cell g t r → met g t (r + 1) ≡ c.opponent
met_cell g t r c in_r is = met_between g t r in_r ∙ sym (ap (λ (c : Cell). c.opponent) is)

met_last : (g : Games) (t : ℕ) → met g t (round_count g.teams + 1) ≡ t
met_last g t = cond-true _ _ _ beyond
  where
    beyond : (round_count g.teams + 1 == 0 || nat_lt (round_count g.teams) (round_count g.teams + 1)) ≡ true
    beyond = grind (arith, nat_tests)

not_itself : (t o : ℕ) → same_lower t o t ≡ 0
not_itself t o = grind (arith, nat_tests)

itself_not : (t o : ℕ) → same_lower t t o ≡ 0
itself_not t o = grind (arith, nat_tests)

shifted_ends : (first rest whole last : ℕ) → first ≡ 0 → last ≡ 0 → whole ≡ rest + last → first + whole ≡ rest
shifted_ends first rest whole last a b c = omega arith

of_team_rounds : (g : Games) (t rounds : ℕ) → round_count g.teams ≡ rounds + 1 →
    of_team g (met g t) t ≡ sum_below rounds (λ r. at_higher (opponent_in g r) (opponent_in g (r + 1)) t)
of_team_rounds g t rounds is =
    first_leg (round_count g.teams) terms ∙
    shifted_ends (terms 0) (sum_below rounds (λ r. at_higher (opponent_in g r) (opponent_in g (r + 1)) t)) _ (terms (rounds + 1))
    (itself_not t (met g t 1))
    (ap (λ n. same_lower t (met g t (rounds + 1)) (met g t (n + 1))) (sym is) ∙
    ap (same_lower t (met g t (rounds + 1))) (met_last g t) ∙ not_itself t (met g t (rounds + 1)))
    (ap (λ n. sum_below n (λ r. terms (r + 1))) is ∙ sum_below_more rounds (λ r. terms (r + 1)) ∙
    ap (λ x. x + terms (rounds + 1))
    (sum_below_same rounds (λ r. terms (r + 1)) (λ r. at_higher (opponent_in g r) (opponent_in g (r + 1)) t)
    (λ r in_r. ap₂ (same_lower t) (met_between g t r (omega arith)) (met_between g t (r + 1) (omega arith)))))
  where
    terms : ℕ → ℕ
    terms r = same_lower t (met g t r) (met g t (r + 1))

repeats_by_teams : (g : Games) → IsDoubleRoundRobin g → repeats g ≡ sum_below g.teams (λ t. of_team g (met g t) t)
unfolding repeats
repeats_by_teams g rr =
    sum_below_same (round_count g.teams - 1) (repeats_after g)
    (λ r. sum_below g.teams (at_higher (opponent_in g r) (opponent_in g (r + 1))))
    (λ r in_r. repeats_after_higher g r) ∙
    sum_below_swap (round_count g.teams - 1) g.teams (λ r. at_higher (opponent_in g r) (opponent_in g (r + 1))) ∙
    sum_below_same g.teams (λ t. sum_below (round_count g.teams - 1) (λ r. at_higher (opponent_in g r) (opponent_in g (r + 1)) t))
    (λ t. of_team g (met g t) t)
    (λ t in_t. sym (of_team_rounds g t (round_count g.teams - 1) (omega (arith, rr.four))))

-- after the exchange

some_round : (index n : ℕ) → (index == 0 || nat_lt n index) ≡ false → 0 < index
some_round index n within = grind (arith, nat_tests)

in_season : (index n : ℕ) → (index == 0 || nat_lt n index) ≡ false → index ≤ n
in_season index n within = grind (arith, nat_tests)

unmoved_end : (index k n : ℕ) → k < n → (index == 0 || nat_lt n index) ≡ true → index ≡ k + 1 → ⊥
unmoved_end index k n in_k end is = grind (arith, nat_tests)

module _ (g : Games) (rr : IsDoubleRoundRobin g) (k l : ℕ) (p : IsPair (round_count g.teams) k l) (among : ℕ → Bool)
    (closed : IsClosed (plays_in g k l) among) where
  abbrev after : Games
  after = rounds_exchanged g k l among

  met_out : (t index : ℕ) → t < g.teams → among t ≡ false → met after t index ≡ met g t index
  met_out t index in_t out = elim (cases_Bool (index == 0 || nat_lt (round_count g.teams) index)) [
    | inl end ↦ cond-true _ _ _ end ∙ sym (cond-true _ _ _ end)
    | inr within ↦
        let some = some_round index (round_count g.teams) within in
        let limit = in_season index (round_count g.teams) within in
        cond-false _ _ _ within ∙
        ap (λ (c : Cell). c.opponent)
        (cell_rounds_exchanged g rr k l p.home_in p.away_in among closed t (index - 1) in_t (omega (arith, some, limit)) ∙
        cond-false _ _ _ out) ∙
        sym (cond-false _ _ _ within)
  ]

  met_in : (t index : ℕ) → t < g.teams → among t ≡ true → met after t index ≡ met g t (exchanged (k + 1) (l + 1) index)
  met_in t index in_t is_in = elim (cases_Bool (index == 0 || nat_lt (round_count g.teams) index)) [
    | inl end ↦
        cond-true _ _ _ end ∙
        sym (ap (met g t) (exchanged_other (k + 1) (l + 1) index (unmoved_end index k (round_count g.teams) p.home_in end)
        (unmoved_end index l (round_count g.teams) p.away_in end)) ∙ cond-true _ _ _ end)
    | inr within ↦
        let some = some_round index (round_count g.teams) within in
        let limit = in_season index (round_count g.teams) within in
        let in_r : index - 1 < round_count g.teams = omega (arith, some, limit) in
        let next : index ≡ (index - 1) + 1 = omega (arith, some) in
        cond-false _ _ _ within ∙
        ap (λ (c : Cell). c.opponent)
        (cell_rounds_exchanged g rr k l p.home_in p.away_in among closed t (index - 1) in_t in_r ∙ cond-true _ _ _ is_in) ∙
        sym (met_between g t (exchanged k l (index - 1)) (exchanged_lt (round_count g.teams) k l (index - 1) p.home_in p.away_in in_r)) ∙
        ap (met g t) (sym (exchanged_next k l (index - 1)) ∙ ap (exchanged (k + 1) (l + 1)) (sym next))
  ]

  -- predicted by the first and the second of the two rounds
  delta : (teams : ℕ → Bool) (first second : ℕ) → ((t : ℕ) → t < g.teams → teams t ≡ among t) → first < second →
      second < round_count g.teams → exchanged (k + 1) (l + 1) ≡ exchanged (first + 1) (second + 1) →
      repeats after + sum_where g.teams teams (λ t. repeats_around (met g t) (λ r. r) t first second) ≡
      repeats g + sum_where g.teams teams (λ t. repeats_around (met g t) (exchanged (first + 1) (second + 1)) t first second)
  delta teams first second members ordered in_second stops =
      ap (λ x. x + sum_where g.teams teams (λ t. repeats_around (met g t) (λ r. r) t first second))
      (repeats_by_teams after (round_robin_rounds_exchanged g rr k l p.home_in p.away_in among closed)) ∙
      sum_below_balance g.teams (λ t. of_team g (met after t) t) (λ t. of_team g (met g t) t)
      (λ t. if teams t then repeats_around (met g t) (exchanged (first + 1) (second + 1)) t first second else 0)
      (λ t. if teams t then repeats_around (met g t) (λ r. r) t first second else 0)
      (λ t in_t. where_balance (teams t) (teams t) _ _ _ _ refl
      (λ is_in.
      ap (λ (f : ℕ → ℕ). of_team g f t + repeats_around (met g t) (λ r. r) t first second)
      (fun_ext (λ r. met_in t r in_t (sym (members t in_t) ∙ is_in) ∙ ap (λ (stop : ℕ → ℕ). met g t (stop r)) stops)) ∙
      team_balance g (met g t) t first second ordered in_second)
      (λ out. ap (λ (f : ℕ → ℕ). of_team g f t) (fun_ext (λ r. met_out t r in_t (sym (members t in_t) ∙ out))))) ∙
      ap (λ x. x + sum_where g.teams teams (λ t. repeats_around (met g t) (exchanged (first + 1) (second + 1)) t first second))
      (sym (repeats_by_teams g rr))

  pub repeats_forward : (teams : ℕ → Bool) → ((t : ℕ) → t < g.teams → teams t ≡ among t) → k < l →
      repeats after + sum_where g.teams teams (λ t. repeats_around (met g t) (λ r. r) t k l) ≡
      repeats g + sum_where g.teams teams (λ t. repeats_around (met g t) (exchanged (k + 1) (l + 1)) t k l)
  repeats_forward teams members ordered = delta teams k l members ordered p.away_in refl

  pub repeats_back : (teams : ℕ → Bool) → ((t : ℕ) → t < g.teams → teams t ≡ among t) → l < k →
      repeats after + sum_where g.teams teams (λ t. repeats_around (met g t) (λ r. r) t l k) ≡
      repeats g + sum_where g.teams teams (λ t. repeats_around (met g t) (exchanged (l + 1) (k + 1)) t l k)
  repeats_back teams members ordered = delta teams l k members ordered p.home_in (fun_ext (exchanged_swapped (k + 1) (l + 1)))

-- the terms of a team, by the teams x and y that it meets in the two rounds

lower_swapped : (t a b : ℕ) → same_lower t a b ≡ same_lower t b a
lower_swapped t a b = grind (arith, nat_tests)

others_none : (t a b : ℕ) → a ≢ b → same_lower t a b ≡ 0
others_none t a b other = grind (arith, nat_tests)

two_sums : (a b c d x y z w : ℕ) → a ≡ x → b ≡ y → c ≡ z → d ≡ w → (a + b) + (c + d) ≡ x + y + (z + w)
two_sums a b c d x y z w e f h i = omega arith

two_sums_crossed : (a b c d x y z w : ℕ) → a ≡ z → b ≡ w → c ≡ x → d ≡ y → (a + b) + (c + d) ≡ x + y + (z + w)
two_sums_crossed a b c d x y z w e f h i = omega arith

without_middle : (a b x y z : ℕ) → a ≡ x → y ≡ 0 → b ≡ z → a + b ≡ x + y + z
without_middle a b x y z e f h = omega arith

module _ (meets : ℕ → ℕ) (t k l x y : ℕ) (in_k : meets (k + 1) ≡ x) (in_l : meets (l + 1) ≡ y) (other : x ≢ y) where
  abbrev lower : ℕ → ℕ → ℕ
  lower a b = same_lower t (meets a) (meets b)

  -- of x and of y with whom is met at another index
  with_x : (index : ℕ) → same_lower t x (meets index) ≡ lower (k + 1) index
  with_x index = ap (λ a. same_lower t a (meets index)) (sym in_k)

  x_with : (index : ℕ) → same_lower t x (meets index) ≡ lower index (k + 1)
  x_with index = with_x index ∙ lower_swapped t (meets (k + 1)) (meets index)

  with_y : (index : ℕ) → same_lower t y (meets index) ≡ lower (l + 1) index
  with_y index = ap (λ a. same_lower t a (meets index)) (sym in_l)

  y_with : (index : ℕ) → same_lower t y (meets index) ≡ lower index (l + 1)
  y_with index = with_y index ∙ lower_swapped t (meets (l + 1)) (meets index)

  apart : (meets (k + 1) == meets (l + 1)) ≡ false
  apart = ne_eqb _ _ (λ e. other (sym in_k ∙ e ∙ in_l))

  pub beside_before : l ≢ k + 1 →
      (same_lower t x (meets k) + same_lower t x (meets (k + 2))) + (same_lower t y (meets l) + same_lower t y (meets (l + 2))) ≡
      repeats_around meets (λ r. r) t k l
  beside_before far =
      two_sums _ _ _ _ _ _ _ _ (x_with k) (with_x (k + 2)) (y_with l) (with_y (l + 2)) ∙ sym (two_before lower k l) ∙
      sym (cond-false _ _ _ apart ∙ cond-false _ _ _ (ne_eqb _ _ far))

  pub beside_after : k + 1 < l →
      (same_lower t x (meets l) + same_lower t x (meets (l + 2))) + (same_lower t y (meets k) + same_lower t y (meets (k + 2))) ≡
      repeats_around meets (exchanged (k + 1) (l + 1)) t k l
  beside_after far =
      two_sums_crossed _ _ _ _ _ _ _ _ (x_with l) (with_x (l + 2)) (y_with k) (with_y (k + 2)) ∙ sym (two_after lower k l far) ∙
      sym (cond-false _ _ _ apart ∙ cond-false _ _ _ (ne_eqb l (k + 1) (λ e. omega arith)))

  pub next_before : l ≡ k + 1 →
      same_lower t x (meets k) + same_lower t y (meets (l + 2)) ≡ repeats_around meets (λ r. r) t k l
  next_before next =
      without_middle _ _ _ _ _ (x_with k) (others_none t _ _ (λ e. other (sym in_k ∙ e ∙ in_l))) (with_y (l + 2)) ∙
      sym (neighbours_before lower k l next) ∙ sym (cond-false _ _ _ apart ∙ cond-true _ _ _ (eq-eqb _ _ next))

  pub next_after : l ≡ k + 1 →
      same_lower t y (meets k) + same_lower t x (meets (l + 2)) ≡ repeats_around meets (exchanged (k + 1) (l + 1)) t k l
  next_after next =
      without_middle _ _ _ _ _ (y_with k) (others_none t _ _ (λ e. other (sym in_k ∙ sym e ∙ in_l))) (with_x (l + 2)) ∙
      sym (neighbours_after lower k l next) ∙ sym (cond-false _ _ _ apart ∙ cond-true _ _ _ (eq-eqb _ _ next))
