-- Travel changes by as much as the legs around the places that change.
use Rattle.std.proofs.Common.{◌≡◌, ℕ, ◌+◌, ◌-◌, ◌<◌, ◌≤◌, Bool, true, false, not, ◌&&◌, ◌||◌, get_or, refl, sym, ◌∙◌}
use Rattle.std.proofs.Common.{ap, subst, inl, inr, arith}
use Rattle.std.specs.Prelude.{◌==◌, nat_lt, if◌then◌else◌}
use Rattle.std.proofs.lemmas.Bool.{cases_lt, cases_eq}
use Rattle.std.proofs.lemmas.Bool.Decides.{nat_tests}
use Rattle.std.proofs.Math.Nat.{add_comm}
use Rattle.league.specs.League.{LeagueData, distance}
use Rattle.league.specs.Sums.{sum_below}
use Rattle.league.proofs.ForCallers.{sum_where_none}
use Rattle.fixtures.specs.declared.game.Cell.{Cell}
use Rattle.fixtures.specs.Games.{Games, round_count, cell, place}
use Rattle.fixtures.specs.Changes.{DiffersOnlyAt, DiffersOnlyIn}
use Rattle.tours.specs.Tours.{tour, leg_count, leg, travel_of, travel}
use Rattle.tours.specs.Parts.{touches_leg, travel_part_of, travel_part}
use Rattle.tours.proofs.stops.Stops.{tour_at_round, tour_at_end}
use Rattle.tours.proofs.balances.Balances.{where_balance, sum_balance}

-- the places of a team stay, but in rounds of the set
abbrev PlacesStay : Games → Games → (ℕ → Bool) → ℕ → Type 0
PlacesStay g g' rounds t = (r : ℕ) → r < round_count g.teams → rounds r ≡ false → place g' t r ≡ place g t r

stop_after : (g g' : Games) (t r : ℕ) → g'.teams ≡ g.teams → r ≤ round_count g.teams →
    (r < round_count g.teams → place g' t r ≡ place g t r) → get_or (tour g' t) (r + 1) 0 ≡ get_or (tour g t) (r + 1) 0
stop_after g g' t r size in_r same = elim (cases_lt r (round_count g.teams)) [
  | inl round ↦
      tour_at_round g' t r (subst (λ (n : ℕ). r < round_count n) (sym size) round) ∙ same round ∙ sym (tour_at_round g t r round)
  | inr end ↦
      let last : r ≡ round_count g.teams = omega arith in
      ap (λ k. get_or (tour g' t) (k + 1) 0) (last ∙ ap round_count (sym size)) ∙ tour_at_end g' t ∙
      sym (ap (λ k. get_or (tour g t) (k + 1) 0) last ∙ tour_at_end g t)
]

stop_same : (g g' : Games) (t k : ℕ) → g'.teams ≡ g.teams → k ≤ round_count g.teams + 1 →
    (0 < k → k - 1 < round_count g.teams → place g' t (k - 1) ≡ place g t (k - 1)) → get_or (tour g' t) k 0 ≡ get_or (tour g t) k 0
stop_same g g' t k size in_k same = elim (cases_eq k 0) [
  | inl none ↦ rw none refl
  | inr some ↦
      let next : (k - 1) + 1 ≡ k = omega arith in
      subst (λ (x : ℕ). get_or (tour g' t) x 0 ≡ get_or (tour g t) x 0) next
      (stop_after g g' t (k - 1) size (omega arith) (same (omega arith)))
]

before_out : (r rounds : ℕ) (before at : Bool) → ((not (r == 0) && before) || (nat_lt r rounds && at)) ≡ false → 0 < r → before ≡ false
before_out r rounds before at out later = grind (arith, nat_tests)

at_out : (r rounds : ℕ) (before at : Bool) → ((not (r == 0) && before) || (nat_lt r rounds && at)) ≡ false → r < rounds → at ≡ false
at_out r rounds before at out round = grind (arith, nat_tests)

leg_same : (l : LeagueData) (g g' : Games) (rounds : ℕ → Bool) (t r : ℕ) → g'.teams ≡ g.teams → PlacesStay g g' rounds t →
    r < leg_count g → touches_leg g rounds r ≡ false → leg l g' t r ≡ leg l g t r
unfolding leg touches_leg
leg_same l g g' rounds t r size stay in_r out =
    ap (λ x. distance l x (get_or (tour g' t) (r + 1) 0))
    (stop_same g g' t r size (omega arith)
    (λ later round. stay (r - 1) round (before_out r (round_count g.teams) (rounds (r - 1)) (rounds r) out later))) ∙
    ap (distance l (get_or (tour g t) r 0))
    (stop_after g g' t r size (omega arith)
    (λ round. stay r round (at_out r (round_count g.teams) (rounds (r - 1)) (rounds r) out round)))

touches_leg_same : (g g' : Games) (rounds : ℕ → Bool) (r : ℕ) → g'.teams ≡ g.teams → touches_leg g' rounds r ≡ touches_leg g rounds r
unfolding touches_leg
touches_leg_same g g' rounds r size =
    ap (λ n. (not (r == 0) && rounds (r - 1)) || (nat_lt r (round_count n) && rounds r)) size

travel_of_balance : (l : LeagueData) (g g' : Games) (rounds : ℕ → Bool) (t : ℕ) → g'.teams ≡ g.teams → PlacesStay g g' rounds t →
    travel_of l g' t + travel_part_of l g rounds t ≡ travel_of l g t + travel_part_of l g' rounds t
unfolding travel_of travel_part_of
travel_of_balance l g g' rounds t size stay =
    sum_balance (leg_count g) (leg_count g') (leg l g' t) (leg l g t)
    (λ r. if touches_leg g' rounds r then leg l g' t r else 0) (λ r. if touches_leg g rounds r then leg l g t r else 0)
    (ap (λ n. round_count n + 1) size)
    (λ r in_r. where_balance (touches_leg g rounds r) (touches_leg g' rounds r) (leg l g' t r) (leg l g t r) (leg l g' t r) (leg l g t r)
    (touches_leg_same g g' rounds r size) (λ inside. add_comm (leg l g' t r) (leg l g t r)) (leg_same l g g' rounds t r size stay in_r))

-- the legs of each team that touch a round of the team's set
abbrev pub travel_at : LeagueData → Games → (ℕ → ℕ → Bool) → ℕ
travel_at l g at = sum_below g.teams (λ t. travel_part_of l g (at t) t)

pub travel_balance_at : (l : LeagueData) (g g' : Games) (at : ℕ → ℕ → Bool) → DiffersOnlyAt place g g' at →
    travel l g' + travel_at l g at ≡ travel l g + travel_at l g' at
unfolding travel
travel_balance_at l g g' at d =
    sum_balance g.teams g'.teams (travel_of l g') (travel_of l g) (λ t. travel_part_of l g' (at t) t)
    (λ t. travel_part_of l g (at t) t) d.same_size
    (λ t in_t. travel_of_balance l g g' (at t) t d.same_size (λ r. d.same t r in_t))

-- cells of touched teams in touched rounds

none_touched : (g : Games) (r : ℕ) → touches_leg g (λ _. false) r ≡ false
unfolding touches_leg
none_touched g r = grind (arith, nat_tests)

part_of_box : (l : LeagueData) (g : Games) (rounds : ℕ → Bool) (t : ℕ) (inside : Bool) →
    travel_part_of l g (λ r. inside && rounds r) t ≡ (if inside then travel_part_of l g rounds t else 0)
unfolding travel_part_of
part_of_box l g rounds t true = refl
part_of_box l g rounds t false = sum_where_none (leg_count g) (touches_leg g (λ _. false)) (leg l g t) (λ r below. none_touched g r)

place_of_cell : (g g' : Games) (t r : ℕ) → cell g' t r ≡ cell g t r → place g' t r ≡ place g t r
unfolding place
place_of_cell g g' t r same = ap (λ (c : Cell). if c.home then t else c.opponent) same

pub travel_balance : (l : LeagueData) (g g' : Games) (teams rounds : ℕ → Bool) → DiffersOnlyIn g g' teams rounds →
    travel l g' + travel_part l g teams rounds ≡ travel l g + travel_part l g' teams rounds
unfolding travel travel_part
travel_balance l g g' teams rounds d =
    sum_balance g.teams g'.teams (travel_of l g') (travel_of l g) (λ t. if teams t then travel_part_of l g' rounds t else 0)
    (λ t. if teams t then travel_part_of l g rounds t else 0) d.same_size
    (λ t in_t.
    ap (λ x. travel_of l g' t + x) (sym (part_of_box l g rounds t (teams t))) ∙
    travel_of_balance l g g' (λ r. teams t && rounds r) t d.same_size
    (λ r in_r out. place_of_cell g g' t r (d.same_cells t r in_t in_r out)) ∙
    ap (λ x. travel_of l g t + x) (part_of_box l g' rounds t (teams t)))
