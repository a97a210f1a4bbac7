-- The legs around two rounds that are exchanged.
use Rattle.std.proofs.Common.{◌≡◌, ℕ, ◌+◌, ◌-◌, ◌<◌, Bool, true, false, not, ◌&&◌, ◌||◌, inl, inr, refl, sym, ◌∙◌, ap, ap₂, arith}
use Rattle.std.specs.Prelude.{◌==◌, nat_lt, if◌then◌else◌, slice_index}
use Rattle.std.proofs.lemmas.Bool.{cases_eq, cond-true, cond-false, eq-eqb, eqb-true, ne_eqb, true≢false}
use Rattle.std.proofs.lemmas.Bool.Decides.{nat_tests}
use Rattle.std.proofs.Math.Path.{fun_ext}
use Rattle.league.specs.League.{LeagueData, distance}
use Rattle.league.specs.Sums.{sum_where}
use Rattle.league.proofs.ForCallers.{sum_below_same, sum_below_add, sum_below_only, sum_below_balance, sum_where_same, sum_where_none}
use Rattle.fixtures.specs.Games.{Games, round_count, IsPair, IsDoubleRoundRobin}
use Rattle.fixtures.specs.Edits.{exchanged, rounds_exchanged}
use Rattle.fixtures.specs.Closed.{IsClosed, plays_in}
use Rattle.fixtures.proofs.ForCallers.{exchanged_first, exchanged_second, exchanged_other}
use Rattle.fixtures.proofs.ForCallers.{differs_only_in_games, kept_rounds_exchanged, round_robin_rounds_exchanged}
use Rattle.tours.specs.Tours.{tour, leg_count, leg, travel}
use Rattle.tours.specs.Parts.{touches_leg, travel_part_of, travel_part}
use Rattle.tours.specs.within.Walked.{leg_exchanged}
use Rattle.tours.specs.within.Delta.{legs_around, legs_changed}
use Rattle.tours.proofs.balances.TravelBalance.{travel_balance}
use Rattle.tours.proofs.exchanged_legs.ExchangedTours.{legs_exchanged, legs_after}

-- which stop comes at an index

two_on : (k : ℕ) → k + 1 + 1 ≡ k + 2
two_on k = omega arith

pub exchanged_swapped : (k l r : ℕ) → exchanged k l r ≡ exchanged l k r
exchanged_swapped k l r = grind (arith, nat_tests)

before_first : (k l : ℕ) → k < l → exchanged (k + 1) (l + 1) k ≡ k
before_first k l ordered = exchanged_other (k + 1) (l + 1) k (λ e. omega arith) (λ e. omega arith)

before_second : (k l : ℕ) → k + 1 < l → exchanged (k + 1) (l + 1) l ≡ l
before_second k l apart = exchanged_other (k + 1) (l + 1) l (λ e. omega arith) (λ e. omega arith)

after_first : (k l : ℕ) → k + 1 < l → exchanged (k + 1) (l + 1) (k + 1 + 1) ≡ k + 2
after_first k l apart =
    exchanged_other (k + 1) (l + 1) (k + 1 + 1) (λ e. omega arith) (λ e. omega arith) ∙ two_on k

after_second : (k l : ℕ) → k < l → exchanged (k + 1) (l + 1) (l + 1 + 1) ≡ l + 2
after_second k l ordered =
    exchanged_other (k + 1) (l + 1) (l + 1 + 1) (λ e. omega arith) (λ e. omega arith) ∙ two_on l

-- what lies between stops before and after

module _ (between : ℕ → ℕ → ℕ) (k m : ℕ) where
  -- between the stop with an index and the next, with the two exchanged
  abbrev pub exchanged_terms : ℕ → ℕ
  exchanged_terms r = between (exchanged (k + 1) (m + 1) r) (exchanged (k + 1) (m + 1) (r + 1))

  between_same : (a b x y : ℕ) → a ≡ x → b ≡ y → between a b ≡ between x y
  between_same a b x y of_a of_b = ap (λ n. between n b) of_a ∙ ap (between x) of_b

  pub two_before : between k (k + 1) + between (k + 1) (k + 1 + 1) + (between m (m + 1) + between (m + 1) (m + 1 + 1)) ≡
      between k (k + 1) + between (k + 1) (k + 2) + (between m (m + 1) + between (m + 1) (m + 2))
  two_before =
      ap₂ (λ x y. between k (k + 1) + x + (between m (m + 1) + y)) (ap (between (k + 1)) (two_on k)) (ap (between (m + 1)) (two_on m))

  pub two_after : k + 1 < m →
      exchanged_terms k + exchanged_terms (k + 1) + (exchanged_terms m + exchanged_terms (m + 1)) ≡
      between k (m + 1) + between (m + 1) (k + 2) + (between m (k + 1) + between (k + 1) (m + 2))
  two_after apart =
      ap₂ (λ x y. x + y)
      (ap₂ (λ x y. x + y)
      (between_same _ _ _ _ (before_first k m (omega arith)) (exchanged_first (k + 1) (m + 1)))
      (between_same _ _ _ _ (exchanged_first (k + 1) (m + 1)) (after_first k m apart)))
      (ap₂ (λ x y. x + y)
      (between_same _ _ _ _ (before_second k m apart) (exchanged_second (k + 1) (m + 1)))
      (between_same _ _ _ _ (exchanged_second (k + 1) (m + 1)) (after_second k m (omega arith))))

  pub neighbours_before : m ≡ k + 1 → between k (k + 1) + between (k + 1) (k + 1 + 1) + between (m + 1) (m + 1 + 1) ≡
      between k (k + 1) + between (k + 1) (m + 1) + between (m + 1) (m + 2)
  neighbours_before next =
      ap₂ (λ x y. between k (k + 1) + x + y) (ap (between (k + 1)) (ap (λ x. x + 1) (sym next)))
      (ap (between (m + 1)) (two_on m))

  pub neighbours_after : m ≡ k + 1 →
      exchanged_terms k + exchanged_terms (k + 1) + exchanged_terms (m + 1) ≡
      between k (m + 1) + between (m + 1) (k + 1) + between (k + 1) (m + 2)
  neighbours_after next =
      ap₂ (λ x y. x + y)
      (ap₂ (λ x y. x + y)
      (between_same _ _ _ _ (before_first k m (omega arith)) (exchanged_first (k + 1) (m + 1)))
      (between_same _ _ _ _ (exchanged_first (k + 1) (m + 1))
      (ap (λ x. exchanged (k + 1) (m + 1) (x + 1)) (sym next) ∙ exchanged_second (k + 1) (m + 1))))
      (between_same _ _ _ _ (exchanged_second (k + 1) (m + 1)) (after_second k m (omega arith)))

-- the sum over the legs that touch one of the two rounds

either_term : (b c : Bool) (x : ℕ) → (b ≡ true → c ≡ false) →
    (if b || c then x else 0) ≡ (if c then x else 0) + (if b then x else 0)
either_term true true x apart = absurd (true≢false (apart refl))
either_term true false x apart = omega arith
either_term false true x apart = omega arith
either_term false false x apart = refl

pub and_one : (n a : ℕ) (test : ℕ → Bool) (f : ℕ → ℕ) → a < n → test a ≡ false →
    sum_where n (λ r. r == a || test r) f ≡ sum_where n test f + f a
and_one n a test f in_range out =
    sum_below_same n (λ r. if r == a || test r then f r else 0)
    (λ r. (if test r then f r else 0) + (if r == a then f r else 0))
    (λ r in_r. either_term (r == a) (test r) (f r) (λ is. ap test (eqb-true r a is) ∙ out)) ∙
    sum_below_add n (λ r. if test r then f r else 0) (λ r. if r == a then f r else 0) ∙
    ap (λ x. sum_where n test f + x)
    (sum_below_only n a (λ r. if r == a then f r else 0) in_range
    (λ r in_r other. cond-false (r == a) (f r) 0 (ne_eqb r a other)) ∙ cond-true (a == a) (f a) 0 (eq-eqb a a refl))

none : (n : ℕ) (f : ℕ → ℕ) → sum_where n (λ _. false) f ≡ 0
none n f = sum_where_none n (λ _. false) f (λ k below. refl)

pub touches_two : (r k l n : ℕ) → k < n → l < n →
    ((not (r == 0) && (r - 1 == k || r - 1 == l)) || (nat_lt r n && (r == k || r == l))) ≡
    (r == k || (r == k + 1 || (r == l || (r == l + 1 || false))))
touches_two r k l n in_k in_l = grind (arith, nat_tests)

touches_neighbours : (r k l n : ℕ) → l ≡ k + 1 → l < n →
    ((not (r == 0) && (r - 1 == k || r - 1 == l)) || (nat_lt r n && (r == k || r == l))) ≡
    (r == k || (r == k + 1 || (r == l + 1 || false)))
touches_neighbours r k l n is in_l = grind (arith, nat_tests)

-- the two rounds, of which k comes first
abbrev pub two_rounds : ℕ → ℕ → ℕ → Bool
two_rounds k l r = r == k || r == l

pub legs_touched : (g : Games) (f : ℕ → ℕ) (k l : ℕ) → k < l → l < round_count g.teams →
    sum_where (leg_count g) (touches_leg g (two_rounds k l)) f ≡ legs_around f k l
unfolding touches_leg
legs_touched g f k l ordered in_l = elim (cases_eq l (k + 1)) [
  | inl next ↦
      sum_where_same n (touches_leg g (two_rounds k l)) (λ r. r == k || (r == k + 1 || (r == l + 1 || false))) f f
      (λ r in_r. touches_neighbours r k l (round_count g.teams) next in_l) (λ r in_r touched. refl) ∙
      and_one n k (λ r. r == k + 1 || (r == l + 1 || false)) f (omega arith) (grind (arith, nat_tests)) ∙
      ap (λ x. x + f k)
      (and_one n (k + 1) (λ r. r == l + 1 || false) f (omega arith) (grind (arith, nat_tests)) ∙
      ap (λ x. x + f (k + 1)) (and_one n (l + 1) (λ _. false) f (omega arith) refl ∙ ap (λ x. x + f (l + 1)) (none n f))) ∙
      in_order (f k) (f (k + 1)) (f (l + 1)) ∙
      sym (cond-true (l == k + 1) _ _ (eq-eqb l (k + 1) next))
  | inr apart ↦
      sum_where_same n (touches_leg g (two_rounds k l)) (λ r. r == k || (r == k + 1 || (r == l || (r == l + 1 || false)))) f f
      (λ r in_r. touches_two r k l (round_count g.teams) (omega arith) in_l) (λ r in_r touched. refl) ∙
      and_one n k (λ r. r == k + 1 || (r == l || (r == l + 1 || false))) f (omega arith) (grind (arith, nat_tests)) ∙
      ap (λ x. x + f k)
      (and_one n (k + 1) (λ r. r == l || (r == l + 1 || false)) f (omega arith) (grind (arith, nat_tests)) ∙
      ap (λ x. x + f (k + 1))
      (and_one n l (λ r. r == l + 1 || false) f (omega arith) (grind (arith, nat_tests)) ∙
      ap (λ x. x + f l) (and_one n (l + 1) (λ _. false) f (omega arith) refl ∙ ap (λ x. x + f (l + 1)) (none n f)))) ∙
      four_in_order (f k) (f (k + 1)) (f l) (f (l + 1)) ∙
      sym (cond-false (l == k + 1) _ _ (ne_eqb l (k + 1) apart))
]
  where
    n : ℕ
    n = leg_count g

    in_order : (a b c : ℕ) → ((0 + c) + b) + a ≡ a + b + c
    in_order a b c = omega arith

    four_in_order : (a b c d : ℕ) → (((0 + d) + c) + b) + a ≡ a + b + (c + d)
    four_in_order a b c d = omega arith

-- a team that is at one place in both rounds

pub stop_same : (stop : ℕ → ℕ) (k m r : ℕ) → stop (k + 1) ≡ stop (m + 1) → stop (exchanged (k + 1) (m + 1) r) ≡ stop r
stop_same stop k m r same = elim (cases_eq r (k + 1)) [
  | inl e ↦
      ap (λ x. stop (exchanged (k + 1) (m + 1) x)) e ∙ ap stop (exchanged_first (k + 1) (m + 1)) ∙ sym same ∙ sym (ap stop e)
  | inr not_k ↦ elim (cases_eq r (m + 1)) [
    | inl e ↦
        ap (λ x. stop (exchanged (k + 1) (m + 1) x)) e ∙ ap stop (exchanged_second (k + 1) (m + 1)) ∙ same ∙ sym (ap stop e)
    | inr not_m ↦ ap stop (exchanged_other (k + 1) (m + 1) r not_k not_m)
  ]
]

legs_same : (l : LeagueData) (g : Games) (t k m : ℕ) → slice_index (tour g t) (k + 1) ≡ slice_index (tour g t) (m + 1) →
    leg_exchanged l g k m t ≡ leg l g t
unfolding leg
legs_same l g t k m same =
    fun_ext (λ r. ap₂ (distance l) (stop_same (slice_index (tour g t)) k m r same) (stop_same (slice_index (tour g t)) k m (r + 1) same))

changed_term : (is_in same : Bool) (now after : ℕ) → (same ≡ true → after ≡ now) →
    (if is_in then after else 0) + (if is_in then (if same then 0 else now) else 0) ≡
    (if is_in then now else 0) + (if is_in then (if same then 0 else after) else 0)
changed_term true true now after stays = ap (λ x. x + 0) (stays refl)
changed_term true false now after stays = omega arith
changed_term false true now after stays = refl
changed_term false false now after stays = refl

changed_balance : (l : LeagueData) (g : Games) (k m : ℕ) (teams : ℕ → Bool) →
    sum_where g.teams teams (λ t. legs_around (leg_exchanged l g k m t) k m) +
    sum_where g.teams teams (legs_changed g (leg l g) k m) ≡
    sum_where g.teams teams (λ t. legs_around (leg l g t) k m) +
    sum_where g.teams teams (legs_changed g (leg_exchanged l g k m) k m)
changed_balance l g k m teams =
    sum_below_balance g.teams (λ t. if teams t then legs_around (leg_exchanged l g k m t) k m else 0)
    (λ t. if teams t then legs_around (leg l g t) k m else 0)
    (λ t. if teams t then legs_changed g (leg_exchanged l g k m) k m t else 0)
    (λ t. if teams t then legs_changed g (leg l g) k m t else 0)
    (λ t in_t. changed_term (teams t) (slice_index (tour g t) (k + 1) == slice_index (tour g t) (m + 1))
    (legs_around (leg l g t) k m) (legs_around (leg_exchanged l g k m t) k m)
    (λ is. ap (λ (f : ℕ → ℕ). legs_around f k m) (legs_same l g t k m (eqb-true _ _ is))))

of_changed : (new old now after part_now part_after : ℕ) → new + now ≡ old + after →
    after + part_now ≡ now + part_after → new + part_now ≡ old + part_after
of_changed new old now after part_now part_after whole parts = omega arith

-- the balance, by the legs of each team

either_swapped : (k l r : ℕ) → two_rounds k l r ≡ two_rounds l k r
either_swapped k l r = grind arith

by_teams : (g : Games) (f : ℕ → ℕ → ℕ) (among teams rounds : ℕ → Bool) (k l : ℕ) → k < l → l < round_count g.teams →
    rounds ≡ two_rounds k l → ((t : ℕ) → t < g.teams → teams t ≡ among t) →
    sum_where g.teams among (λ t. sum_where (leg_count g) (touches_leg g rounds) (f t)) ≡
    sum_where g.teams teams (λ t. legs_around (f t) k l)
by_teams g f among teams rounds k l ordered in_l two members =
    sum_where_same g.teams among teams (λ t. sum_where (leg_count g) (touches_leg g rounds) (f t))
    (λ t. legs_around (f t) k l) (λ t in_t. sym (members t in_t))
    (λ t in_t is_in. ap (λ set. sum_where (leg_count g) (touches_leg g set) (f t)) two ∙ legs_touched g (f t) k l ordered in_l)

module _ (l : LeagueData) (g : Games) (rr : IsDoubleRoundRobin g) (k m : ℕ) (p : IsPair (round_count g.teams) k m)
    (among : ℕ → Bool) (closed : IsClosed (plays_in g k m) among) where
  travel_part_balance : travel l (rounds_exchanged g k m among) + travel_part l g among (two_rounds k m) ≡
      travel l g + legs_exchanged l g k m among (two_rounds k m)
  travel_part_balance =
      travel_balance l g (rounds_exchanged g k m among) among (two_rounds k m)
      (differs_only_in_games g (rounds_exchanged g k m among) among (two_rounds k m) rr
      (round_robin_rounds_exchanged g rr k m p.home_in p.away_in among closed) refl
      (kept_rounds_exchanged g k m among closed)) ∙
      ap (λ x. travel l g + x) (sym (legs_after l g rr k m p.home_in p.away_in among closed (two_rounds k m)))

  -- predicted by the first and the second of the two rounds
  delta : (teams : ℕ → Bool) (first second : ℕ) → ((t : ℕ) → t < g.teams → teams t ≡ among t) → first < second →
      second < round_count g.teams → two_rounds k m ≡ two_rounds first second →
      exchanged (k + 1) (m + 1) ≡ exchanged (first + 1) (second + 1) →
      travel l (rounds_exchanged g k m among) + sum_where g.teams teams (λ t. legs_around (leg l g t) first second) ≡
      travel l g + sum_where g.teams teams (λ t. legs_around (leg_exchanged l g first second t) first second)
  unfolding travel_part travel_part_of
  delta teams first second members ordered in_second rounds stops =
      ap (λ x. travel l (rounds_exchanged g k m among) + x)
      (sym (by_teams g (leg l g) among teams (two_rounds k m) first second ordered in_second rounds members)) ∙
      travel_part_balance ∙
      ap (λ x. travel l g + x)
      (by_teams g (leg_exchanged l g k m) among teams (two_rounds k m) first second ordered in_second rounds members ∙
      ap (λ (stop : ℕ → ℕ). sum_where g.teams teams (λ t. legs_around
      (λ r. distance l (slice_index (tour g t) (stop r)) (slice_index (tour g t) (stop (r + 1)))) first second)) stops)

  pub delta_forward : (teams : ℕ → Bool) → ((t : ℕ) → t < g.teams → teams t ≡ among t) → k < m →
      travel l (rounds_exchanged g k m among) + sum_where g.teams teams (legs_changed g (leg l g) k m) ≡
      travel l g + sum_where g.teams teams (legs_changed g (leg_exchanged l g k m) k m)
  delta_forward teams members ordered =
      of_changed _ _ _ _ _ _ (delta teams k m members ordered p.away_in refl refl) (changed_balance l g k m teams)

  pub delta_back : (teams : ℕ → Bool) → ((t : ℕ) → t < g.teams → teams t ≡ among t) → m < k →
      travel l (rounds_exchanged g k m among) + sum_where g.teams teams (legs_changed g (leg l g) m k) ≡
      travel l g + sum_where g.teams teams (legs_changed g (leg_exchanged l g m k) m k)
  delta_back teams members ordered =
      of_changed _ _ _ _ _ _
      (delta teams m k members ordered p.home_in (fun_ext (either_swapped k m)) (fun_ext (exchanged_swapped (k + 1) (m + 1))))
      (changed_balance l g m k teams)
