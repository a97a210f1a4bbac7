-- The streaks after an exchange, predicted by the sides before it.
use Rattle.std.proofs.Common.{◌≡◌, ◌≢◌, ℕ, ◌+◌, ◌<◌, ◌≤◌, Bool, true, false, not, ◌&&◌, ◌||◌, inl, inr, refl, sym, ◌∙◌}
use Rattle.std.proofs.Common.{ap, subst, le_refl, arith}
use Rattle.std.specs.Prelude.{◌==◌, nat_lt, if◌then◌else◌}
use Rattle.std.specs.Bool.{beq}
use Rattle.std.proofs.lemmas.Bool.{cases_Bool, cases_lt, cond-true, cond-false, lt-ltb, le-ltb, ltb-true}
use Rattle.std.proofs.lemmas.Bool.Decides.{nat_tests}
use Rattle.league.specs.Sets.{has}
use Rattle.league.specs.Sums.{sum_where}
use Rattle.league.proofs.ForCallers.{sum_below_balance, sum_below_le_each, sum_where_same}
use Rattle.fixtures.specs.declared.game.Cell.{Cell}
use Rattle.fixtures.specs.Games.{Games, round_of, round_count, games, cell, is_home, IsPair, IsDoubleRoundRobin}
use Rattle.fixtures.specs.Edits.{exchanged, rounds_exchanged, teams_exchanged}
use Rattle.fixtures.specs.within.Edits.{is_either}
use Rattle.fixtures.specs.Closed.{IsClosed, plays_in}
use Rattle.fixtures.specs.Changes.{flips}
use Rattle.fixtures.proofs.ForCallers.{exchanged_first, exchanged_second, exchanged_other, cases_exchanged}
use Rattle.fixtures.proofs.ForCallers.{cell_rounds_exchanged, cell_teams_exchanged, other_cell, StaysAmong}
use Rattle.tours.specs.Streaks.{streaks_of, runs_over}
use Rattle.tours.specs.within.Delta.{HasHomes}
use Rattle.tours.proofs.exchanged_legs.OwnLegs.{same_side}
use Rattle.tours.proofs.balances.StreaksBalance.{streaks_of_balance, part_of_box}
use Rattle.tours.proofs.exchanged_legs.TeamsDelta.{unmoved, of_either}

-- a team of which no side differs has as many streaks
streaks_of_same : (g g' : Games) (limit t : ℕ) → g'.teams ≡ g.teams →
    ((r : ℕ) → r < round_count g.teams → is_home g' t r ≡ is_home g t r) → streaks_of g' limit t ≡ streaks_of g limit t
streaks_of_same g g' limit t size same =
    omega (
      arith,
      streaks_of_balance g g' limit (λ _. false) t size (λ r in_r out. same r in_r),
      part_of_box g limit (λ _. false) t false,
      part_of_box g' limit (λ _. false) t false,
    )

by_tests : (a b : Bool) (new old : ℕ) → ((a && b) ≡ false → new ≡ old) →
    new + (if a then (if b then old else 0) else 0) ≡ old + (if a then (if b then new else 0) else 0)
by_tests true true new old same = omega arith
by_tests true false new old same = ap (λ x. x + 0) (same refl)
by_tests false b new old same = ap (λ x. x + 0) (same refl)

-- no side differs but of the flipping teams of a set
streaks_by_teams : (g : Games) (at : ℕ → ℕ → ℕ) (limit : ℕ) (teams flipping : ℕ → Bool) →
    ((t r : ℕ) → t < g.teams → r < round_count g.teams → (teams t && flipping t) ≡ false →
    is_home (games g.teams at) t r ≡ is_home g t r) →
    runs_over (games g.teams at) limit + sum_where g.teams teams (λ t. if flipping t then streaks_of g limit t else 0) ≡
    runs_over g limit + sum_where g.teams teams (λ t. if flipping t then streaks_of (games g.teams at) limit t else 0)
unfolding runs_over
streaks_by_teams g at limit teams flipping others =
    sum_below_balance g.teams (streaks_of (games g.teams at) limit) (streaks_of g limit)
    (λ t. if teams t then (if flipping t then streaks_of (games g.teams at) limit t else 0) else 0)
    (λ t. if teams t then (if flipping t then streaks_of g limit t else 0) else 0)
    (λ t in_t. by_tests (teams t) (flipping t) (streaks_of (games g.teams at) limit t) (streaks_of g limit t)
    (λ out. streaks_of_same g (games g.teams at) limit t refl (λ r in_r. others t r in_t in_r out)))

at_most_all : (a b : Bool) (x : ℕ) → (if a then (if b then x else 0) else 0) ≤ x
at_most_all true true x = le_refl x
at_most_all true false x = omega arith
at_most_all false b x = omega arith

-- which are no more than all
pub part_of_streaks : (g : Games) (limit : ℕ) (teams flipping : ℕ → Bool) →
    sum_where g.teams teams (λ t. if flipping t then streaks_of g limit t else 0) ≤ runs_over g limit
unfolding runs_over
part_of_streaks g limit teams flipping =
    sum_below_le_each g.teams (λ t. if teams t then (if flipping t then streaks_of g limit t else 0) else 0) (streaks_of g limit)
    (λ t in_t. at_most_all (teams t) (flipping t) (streaks_of g limit t))

guarded : (guard a b : Bool) → (guard ≡ true → a ≡ b) → (guard && a) ≡ (guard && b)
guarded true a b same = same refl
guarded false a b same = refl

-- ---- rounds

-- a team that is on one side in both rounds stays on its sides
unflipped : (g : Games) (k l t r : ℕ) → flips g k l t ≡ false → is_home g t (exchanged k l r) ≡ is_home g t r
unflipped g k l t r same =
    let alike = same_side g k l t same in
    elim (cases_exchanged k l r) [
      | inl e ↦ ap (is_home g t) (ap (exchanged k l) e ∙ exchanged_first k l) ∙ sym alike ∙ ap (is_home g t) (sym e)
      | inr (inl e) ↦ ap (is_home g t) (ap (exchanged k l) e ∙ exchanged_second k l) ∙ alike ∙ ap (is_home g t) (sym e)
      | inr (inr ne) ↦ ap (is_home g t) (exchanged_other k l r ne.0 ne.1)
    ]

module _ (g : Games) (rr : IsDoubleRoundRobin g) (k l : ℕ) (p : IsPair (round_count g.teams) k l) (among : ℕ → Bool)
    (closed : IsClosed (plays_in g k l) among) where
  abbrev after : Games
  after = rounds_exchanged g k l among

  side_after : (t r : ℕ) (is_in : Bool) → among t ≡ is_in → t < g.teams → r < round_count g.teams →
      is_home after t r ≡ (if is_in then is_home g t (exchanged k l r) else is_home g t r)
  unfolding is_home
  side_after t r is_in is in_t in_r =
      ap (λ (c : Cell). c.home) (cell_rounds_exchanged g rr k l p.home_in p.away_in among closed t r in_t in_r) ∙ by_set is_in is
    where
      by_set : (b : Bool) → among t ≡ b →
          (if among t then cell g t (exchanged k l r) else cell g t r).home ≡
          (if b then (cell g t (exchanged k l r)).home else (cell g t r).home)
      by_set true e = ap (λ (c : Cell). c.home) (cond-true _ _ _ e)
      by_set false e = ap (λ (c : Cell). c.home) (cond-false _ _ _ e)

  others_stay : (t r : ℕ) → t < g.teams → r < round_count g.teams → (among t && flips g k l t) ≡ false →
      is_home after t r ≡ is_home g t r
  others_stay t r in_t in_r out = elim (cases_Bool (among t)) [
    | inl is_in ↦
        side_after t r true is_in in_t in_r ∙ unflipped g k l t r (sym (ap (λ b. b && flips g k l t) is_in) ∙ out)
    | inr is_out ↦ side_after t r false is_out in_t in_r
  ]

  pub of_flipping : (limit : ℕ) (teams : ℕ → Bool) → ((t : ℕ) → t < g.teams → teams t ≡ among t) →
      runs_over after limit + sum_where g.teams teams (λ t. if flips g k l t then streaks_of g limit t else 0) ≡
      runs_over g limit + sum_where g.teams teams (λ t. if flips g k l t then streaks_of after limit t else 0)
  of_flipping limit teams members =
      streaks_by_teams g (λ h a. if among h then exchanged k l (round_of g h a) else round_of g h a) limit teams (flips g k l)
      (λ t r in_t in_r out. others_stay t r in_t in_r (sym (ap (λ b. b && flips g k l t) (members t in_t)) ∙ out))

-- a team of the set has the sides that it has where the two are exchanged for all teams
abbrev for_all : Games → ℕ → ℕ → Games
for_all g k l = rounds_exchanged g k l (λ _. true)

side_for_all : (g : Games) (k l : ℕ) → IsDoubleRoundRobin g → IsPair (round_count g.teams) k l → (t r : ℕ) → t < g.teams →
    r < round_count g.teams →
    is_home (for_all g k l) t r ≡ is_home g t (exchanged k l r)
side_for_all g k l rr p t r = side_after g rr k l p (λ _. true) (λ x y step member. member) t r true refl

pub rounds_delta : (g : Games) (rr : IsDoubleRoundRobin g) (k l : ℕ) (p : IsPair (round_count g.teams) k l) (among : ℕ → Bool) →
    IsClosed (plays_in g k l) among → (limit : ℕ) (teams : ℕ → Bool) → ((t : ℕ) → t < g.teams → teams t ≡ among t) →
    runs_over (rounds_exchanged g k l among) limit + sum_where g.teams teams (λ t. if flips g k l t then streaks_of g limit t else 0) ≡
    runs_over g limit + sum_where g.teams teams (λ t. if flips g k l t then streaks_of (for_all g k l) limit t else 0)
rounds_delta g rr k l p among closed limit teams members =
    of_flipping g rr k l p among closed limit teams members ∙
    ap (λ x. runs_over g limit + x)
    (sum_where_same g.teams teams teams (λ t. if flips g k l t then streaks_of (rounds_exchanged g k l among) limit t else 0)
    (λ t. if flips g k l t then streaks_of (for_all g k l) limit t else 0) (λ t in_t. refl)
    (λ t in_t is_in. ap (λ x. if flips g k l t then x else 0)
    (streaks_of_same (for_all g k l) (rounds_exchanged g k l among) limit t refl
    (λ r in_r. side_after g rr k l p among closed t r true (sym (members t in_t) ∙ is_in) in_t in_r ∙
    sym (side_for_all g k l rr p t r in_t in_r)))))

-- the home rounds of a team that flips

opposite : (a b : Bool) → not (beq a b) ≡ true → not a ≡ b
opposite true true e = e
opposite true false e = refl
opposite false true e = refl
opposite false false e = sym e

first_of : (r k l : ℕ) → r ≡ l → (r == l || (r == k || false)) ≡ true
first_of r k l e = grind (arith, nat_tests)

second_of : (r k l : ℕ) → r ≡ k → (r == l || (r == k || false)) ≡ true
second_of r k l e = grind (arith, nat_tests)

neither_of : (r k l : ℕ) → r ≢ k → r ≢ l → (r == l || (r == k || false)) ≡ false
neither_of r k l not_k not_l = grind (arith, nat_tests)

flipped_at : (g : Games) (k l t r : ℕ) → flips g k l t ≡ true →
    (if r == l || (r == k || false) then not (is_home g t r) else is_home g t r) ≡ is_home g t (exchanged k l r)
unfolding flips
flipped_at g k l t r flipping =
    let other : not (is_home g t k) ≡ is_home g t l = opposite (is_home g t k) (is_home g t l) flipping in
    elim (cases_exchanged k l r) [
      | inl e ↦
          cond-true _ _ _ (second_of r k l e) ∙ ap (λ x. not (is_home g t x)) e ∙ other ∙
          sym (ap (is_home g t) (ap (exchanged k l) e ∙ exchanged_first k l))
      | inr (inl e) ↦
          cond-true _ _ _ (first_of r k l e) ∙ ap (λ x. not (is_home g t x)) e ∙ ap not (sym other) ∙
          twice (is_home g t k) ∙ sym (ap (is_home g t) (ap (exchanged k l) e ∙ exchanged_second k l))
      | inr (inr ne) ↦
          cond-false _ _ _ (neither_of r k l ne.0 ne.1) ∙ sym (ap (is_home g t) (exchanged_other k l r ne.0 ne.1))
    ]
  where
    twice : (b : Bool) → not (not b) ≡ b
    twice true = refl
    twice false = refl

pub flipped_row : (g : Games) (t k l home both flipped : ℕ) → IsDoubleRoundRobin g → IsPair (round_count g.teams) k l → t < g.teams →
    HasHomes g t home → flips g k l t ≡ true →
    ((r : ℕ) → has both r ≡ (r == l || (r == k || false))) →
    ((r : ℕ) → has flipped r ≡ (if has both r then not (has home r) else has home r)) → HasHomes (for_all g k l) t flipped
flipped_row g t k l home both flipped rr p in_t homes flipping is_both is_flipped r =
    is_flipped r ∙ ap (λ b. if b then not (has home r) else has home r) (is_both r) ∙
    ap (λ b. if r == l || (r == k || false) then not b else b) (homes r) ∙
    elim (cases_lt r (round_count g.teams)) [
      | inl in_r ↦
          rw (lt-ltb r (round_count g.teams) in_r) (flipped_at g k l t r flipping ∙ sym (side_for_all g k l rr p t r in_t in_r))
      | inr past ↦
          rw (le-ltb r (round_count g.teams) past)
          (cond-false _ _ _ (neither_of r k l (λ e. omega (arith, p.home_in)) (λ e. omega (arith, p.away_in))))
    ]

-- ---- teams

module _ (g : Games) (rr : IsDoubleRoundRobin g) (i j : ℕ) (p : IsPair g.teams i j) (among : ℕ → Bool)
    (stays : StaysAmong g.teams i j among (round_of g)) where
  abbrev after_teams : Games
  after_teams = teams_exchanged g i j among

  side_by_round : (t r : ℕ) → t < g.teams → r < round_count g.teams →
      is_home after_teams t r ≡ (if among r then is_home g (exchanged i j t) r else is_home g t r)
  unfolding is_home
  side_by_round t r in_t in_r =
      ap (λ (c : Cell). c.home) (cell_teams_exchanged g rr i j among p.home_in p.away_in stays t r in_t in_r) ∙ by_set (among r)
    where
      by_set : (b : Bool) → (if b then other_cell i j (cell g (exchanged i j t) r) else cell g t r).home ≡
          (if b then (cell g (exchanged i j t) r).home else (cell g t r).home)
      by_set true = refl
      by_set false = refl

  guests_stay : (t r : ℕ) → t < g.teams → r < round_count g.teams → (is_either i j t && true) ≡ false →
      is_home after_teams t r ≡ is_home g t r
  guests_stay t r in_t in_r out =
      side_by_round t r in_t in_r ∙
      ap (λ u. if among r then is_home g u r else is_home g t r) (unmoved i j t (alone (is_either i j t) out)) ∙
      either_way (among r) (is_home g t r)
    where
      alone : (b : Bool) → (b && true) ≡ false → b ≡ false
      alone true e = e
      alone false e = e

      either_way : (b x : Bool) → (if b then x else x) ≡ x
      either_way true x = refl
      either_way false x = refl

  pub teams_delta : (limit : ℕ) → runs_over after_teams limit + (streaks_of g limit j + streaks_of g limit i) ≡
      runs_over g limit + (streaks_of after_teams limit j + streaks_of after_teams limit i)
  teams_delta limit =
      ap (λ x. runs_over after_teams limit + x) (sym (of_either g.teams i j (streaks_of g limit) p)) ∙
      streaks_by_teams g (λ h a. if among (round_of g h a) then round_of g (exchanged i j h) (exchanged i j a) else round_of g h a)
      limit (is_either i j) (λ _. true) guests_stay ∙
      ap (λ x. runs_over g limit + x) (of_either g.teams i j (streaks_of after_teams limit) p)

  pub part_of_two : (limit : ℕ) → streaks_of g limit j + streaks_of g limit i ≤ runs_over g limit
  part_of_two limit =
      subst (λ (x : ℕ). x ≤ runs_over g limit) (of_either g.teams i j (streaks_of g limit) p)
      (part_of_streaks g limit (is_either i j) (λ _. true))

  -- the home rounds of one of the two, which has the other's in the rounds of the set
  pub exchanged_row : (t other home_t home_other new : ℕ) → t < g.teams → exchanged i j t ≡ other → HasHomes g t home_t →
      HasHomes g other home_other → ((r : ℕ) → has new r ≡ (if among r then has home_other r else has home_t r)) →
      HasHomes after_teams t new
  exchanged_row t other home_t home_other new in_t is homes_t homes_other is_new r =
      is_new r ∙
      rw (homes_other r, homes_t r)
      (pulled (among r) (nat_lt r (round_count g.teams)) (is_home g other r) (is_home g t r)) ∙
      guarded (nat_lt r (round_count g.teams)) (if among r then is_home g other r else is_home g t r) (is_home after_teams t r)
      (λ below. sym (side_by_round t r in_t (ltb-true r _ below) ∙ ap (λ u. if among r then is_home g u r else is_home g t r) is))
    where
      pulled : (m w a b : Bool) → (if m then w && a else w && b) ≡ (w && (if m then a else b))
      pulled true w a b = refl
      pulled false w a b = refl

-- a bit of each row where the bits that differ are flipped in a set

module _ (a b among flipped differ : Bool) (is_flipped : flipped ≡ (differ && among)) (is_differ : differ ≡ (if b then not a else a)) where
  pub first_flipped : (if flipped then not a else a) ≡ (if among then b else a)
  first_flipped = rw (is_flipped, is_differ) (by_bits a b among)
    where
      by_bits : (a b among : Bool) → (if (if b then not a else a) && among then not a else a) ≡ (if among then b else a)
      by_bits a b among = grind arith

  pub second_flipped : (if flipped then not b else b) ≡ (if among then a else b)
  second_flipped = rw (is_flipped, is_differ) (by_bits a b among)
    where
      by_bits : (a b among : Bool) → (if (if b then not a else a) && among then not b else b) ≡ (if among then a else b)
      by_bits a b among = grind arith
