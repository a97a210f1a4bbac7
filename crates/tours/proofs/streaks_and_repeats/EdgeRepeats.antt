-- The repeats after i and j are exchanged in the rounds of a set: they change at its edges.
use Rattle.std.proofs.Common.{◌≡◌, ◌≢◌, ℕ, ◌+◌, ◌-◌, ◌<◌, Bool, true, false, not, ◌&&◌, ◌||◌, inl, inr, refl, sym, ◌∙◌, ap, ap₂, arith}
use Rattle.std.specs.Prelude.{◌==◌, nat_lt, if◌then◌else◌}
use Rattle.std.specs.Bool.{beq}
use Rattle.std.proofs.lemmas.Bool.{cases_Bool, cases_eq, and_cases, and_parts, or_cases, or_left, or_parts, cond-true, cond-false, eqb-true, eq-eqb, ne_eqb}
use Rattle.league.specs.Sums.{sum_where}
use Rattle.league.proofs.ForCallers.{sum_below_balance}
use Rattle.fixtures.specs.declared.game.Cell.{Cell}
use Rattle.fixtures.specs.Games.{Games, round_of, round_count, cell, meets, IsPair, IsDoubleRoundRobin}
use Rattle.fixtures.specs.Edits.{exchanged, teams_exchanged}
use Rattle.fixtures.specs.within.Edits.{is_either}
use Rattle.fixtures.proofs.ForCallers.{exchanged_first, exchanged_second, exchanged_exchanged, cell_teams_exchanged, other_cell}
use Rattle.fixtures.proofs.ForCallers.{round_robin_teams_exchanged, StaysAmong}
use Rattle.tours.specs.Repeats.{repeats}
use Rattle.tours.specs.within.Delta.{meets_next}
use Rattle.tours.proofs.balances.Balances.{one}
use Rattle.tours.proofs.balances.RepeatsBalance.{MeetingsDifferOnlyIn, repeats_with_after, repeats_with, repeats_balance_with}
use Rattle.tours.proofs.meetings.Members.{repeat_at, repeats_with_after_members}
use Rattle.tours.proofs.meetings.Opponents.{opponent_in}
use Rattle.tours.proofs.exchanged_legs.TeamsDelta.{unmoved, of_either, of_first, of_second, meets_neither}

exchanged_apart : (i j x y : ℕ) → x ≢ y → exchanged i j x ≢ exchanged i j y
exchanged_apart i j x y apart is = apart (sym (exchanged_exchanged i j x) ∙ ap (exchanged i j) is ∙ exchanged_exchanged i j y)

same_exchanged : (i j x y : ℕ) → (exchanged i j x == exchanged i j y) ≡ (x == y)
same_exchanged i j x y = elim (cases_eq x y) [
  | inl same ↦ eq-eqb (exchanged i j x) (exchanged i j y) (ap (exchanged i j) same) ∙ sym (eq-eqb x y same)
  | inr other ↦ ne_eqb (exchanged i j x) (exchanged i j y) (exchanged_apart i j x y other) ∙ sym (ne_eqb x y other)
]

-- whom a team of the two meets twice is none of them
abbrev MeetsOthers : Games → ℕ → ℕ → ℕ → ℕ → Type 0
MeetsOthers g i j r t = (opponent_in g r t == opponent_in g (r + 1) t) ≡ true → is_either i j (opponent_in g r t) ≡ false

repeat_term : (same lower other : Bool) → (same ≡ true → other ≡ false) →
    one (same && (lower || not other)) ≡ one same
repeat_term true true other out = refl
repeat_term true false other out = rw (out refl) refl
repeat_term false lower other out = refl

with_either : (g : Games) → IsDoubleRoundRobin g → (i j r : ℕ) → IsPair g.teams i j → r + 1 < round_count g.teams →
    MeetsOthers g i j r i → MeetsOthers g i j r j →
    repeats_with_after g (is_either i j) r ≡ meets_next g j j r + meets_next g i i r
with_either g rr i j r p in_r others_i others_j =
    repeats_with_after_members g (is_either i j) r rr in_r ∙ of_either g.teams i j (repeat_at g (is_either i j) r) p ∙
    ap₂ (λ x y. x + y)
    (repeat_term (opponent_in g r j == opponent_in g (r + 1) j) (nat_lt (opponent_in g r j) j) (is_either i j (opponent_in g r j)) others_j)
    (repeat_term (opponent_in g r i == opponent_in g (r + 1) i) (nat_lt (opponent_in g r i) i) (is_either i j (opponent_in g r i)) others_i)

-- what a round that touches the set adds: before and after, and to what is counted
edge_terms : (a b : Bool) (new old before after : ℕ) → ((a || b) ≡ true → old ≡ before) →
    ((a && b) ≡ true → new ≡ before) → ((a || b) ≡ true → (a && b) ≡ false → new ≡ after) →
    (if a || b then new else 0) + (if not (beq a b) then before else 0) ≡
    (if a || b then old else 0) + (if not (beq a b) then after else 0)
edge_terms true true new old before after olds inner edge = ap (λ x. x + 0) (inner refl ∙ sym (olds refl))
edge_terms true false new old before after olds inner edge = omega (arith, olds refl, edge refl refl)
edge_terms false true new old before after olds inner edge = omega (arith, olds refl, edge refl refl)
edge_terms false false new old before after olds inner edge = refl

of_edges : (new old with_new with_old before after : ℕ) → new + with_old ≡ old + with_new → with_new + before ≡ with_old + after →
    new + before ≡ old + after
of_edges new old with_new with_old before after whole edges = omega arith

module _ (g : Games) (rr : IsDoubleRoundRobin g) (i j : ℕ) (p : IsPair g.teams i j) (among : ℕ → Bool)
    (stays : StaysAmong g.teams i j among (round_of g)) (first_out : among (round_of g i j) ≡ false)
    (second_out : among (round_of g j i) ≡ false) where
  abbrev after : Games
  after = teams_exchanged g i j among

  cell_after : (t r : ℕ) → t < g.teams → r < round_count g.teams →
      cell after t r ≡ (if among r then other_cell i j (cell g (exchanged i j t) r) else cell g t r)
  cell_after = cell_teams_exchanged g rr i j among p.home_in p.away_in stays

  meetings_differ : MeetingsDifferOnlyIn g after (is_either i j) among
  unfolding meets
  meetings_differ = record {
    same_size = refl;
    same = λ t u r in_t in_u in_r out. elim (and_cases (is_either i j t || is_either i j u) (among r) out) [
      | inr elsewhere ↦ ap (λ (c : Cell). c.opponent == u) (cell_after t r in_t in_r ∙ cond-false _ _ _ elsewhere)
      | inl neither ↦
          let parts = or_parts (is_either i j t) (is_either i j u) neither in
          elim (cases_Bool (among r)) [
            | inr elsewhere ↦ ap (λ (c : Cell). c.opponent == u) (cell_after t r in_t in_r ∙ cond-false _ _ _ elsewhere)
            | inl there ↦
                ap (λ (c : Cell). c.opponent == u) (cell_after t r in_t in_r ∙ cond-true _ _ _ there) ∙
                ap (λ x. exchanged i j (opponent_in g r x) == u) (unmoved i j t parts.0) ∙
                ap (λ x. exchanged i j (opponent_in g r t) == x) (sym (unmoved i j u parts.1)) ∙
                same_exchanged i j (opponent_in g r t) u
          ]
    ];
  }

  -- whom one of the two meets after: in a round of the set whom the other met
  other_there : (t u r : ℕ) → is_either i j u ≡ true → exchanged i j t ≡ u → t < g.teams → u < g.teams → r < round_count g.teams →
      among r ≡ true → opponent_in after r t ≡ opponent_in g r u
  other_there t u r of_u is in_t in_u in_r there =
      ap (λ (c : Cell). c.opponent) (cell_after t r in_t in_r ∙ cond-true _ _ _ there) ∙
      ap (λ x. exchanged i j (opponent_in g r x)) is ∙
      unmoved i j (opponent_in g r u) (meets_neither g rr i j among first_out second_out u r of_u in_u in_r there)

  own_elsewhere : (t r : ℕ) → t < g.teams → r < round_count g.teams → among r ≡ false → opponent_in after r t ≡ opponent_in g r t
  own_elsewhere t r in_t in_r out = ap (λ (c : Cell). c.opponent) (cell_after t r in_t in_r ∙ cond-false _ _ _ out)

  -- a team that meets none of the two in a round of the set
  others_in : (h : Games) (t r : ℕ) → ((s : ℕ) → s < round_count g.teams → among s ≡ true → is_either i j (opponent_in h s t) ≡ false) →
      r + 1 < round_count g.teams → (among r || among (r + 1)) ≡ true → MeetsOthers h i j r t
  others_in h t r neither in_r touched same = elim (or_cases (among r) (among (r + 1)) touched) [
    | inl here ↦ neither r (omega arith) here
    | inr next ↦ ap (is_either i j) (eqb-true _ _ same) ∙ neither (r + 1) in_r next
  ]

  neither_before : (t : ℕ) → is_either i j t ≡ true → t < g.teams → (s : ℕ) → s < round_count g.teams → among s ≡ true →
      is_either i j (opponent_in g s t) ≡ false
  neither_before t of_t in_t s in_s there = meets_neither g rr i j among first_out second_out t s of_t in_t in_s there

  first_there : (r : ℕ) → r < round_count g.teams → among r ≡ true → opponent_in after r i ≡ opponent_in g r j
  first_there r = other_there i j r (of_second i j) (exchanged_first i j) p.home_in p.away_in

  second_there : (r : ℕ) → r < round_count g.teams → among r ≡ true → opponent_in after r j ≡ opponent_in g r i
  second_there r = other_there j i r (of_first i j) (exchanged_second i j) p.away_in p.home_in

  with_before : (r : ℕ) → r + 1 < round_count g.teams → (among r || among (r + 1)) ≡ true →
      repeats_with_after g (is_either i j) r ≡ meets_next g j j r + meets_next g i i r
  with_before r in_r touched =
      with_either g rr i j r p in_r (others_in g i r (neither_before i (of_first i j) p.home_in) in_r touched)
      (others_in g j r (neither_before j (of_second i j) p.away_in) in_r touched)

  with_delta : (r : ℕ) → r + 1 < round_count g.teams → (among r || among (r + 1)) ≡ true →
      repeats_with_after after (is_either i j) r ≡ meets_next after j j r + meets_next after i i r
  with_delta r in_r touched =
      with_either after (round_robin_teams_exchanged g rr i j among p.home_in p.away_in stays) i j r p in_r
      (others_in after i r
      (λ s in_s there. ap (is_either i j) (first_there s in_s there) ∙ neither_before j (of_second i j) p.away_in s in_s there)
      in_r touched)
      (others_in after j r
      (λ s in_s there. ap (is_either i j) (second_there s in_s there) ∙ neither_before i (of_first i j) p.home_in s in_s there)
      in_r touched)

  -- the meetings of the two after, in a round and the next
  nexts : (r x y z w : ℕ) → opponent_in after r j ≡ x → opponent_in after (r + 1) j ≡ y → opponent_in after r i ≡ z →
      opponent_in after (r + 1) i ≡ w →
      meets_next after j j r + meets_next after i i r ≡ (if x == y then 1 else 0) + (if z == w then 1 else 0)
  nexts r x y z w a b c d =
      ap₂ (λ u v. u + v) (ap₂ (λ u v. if u == v then 1 else 0) a b) (ap₂ (λ u v. if u == v then 1 else 0) c d)

  sum_swapped : (x y : ℕ) → x + y ≡ y + x
  sum_swapped x y = omega arith

  nexts_within : (r : ℕ) → r + 1 < round_count g.teams → among r ≡ true → among (r + 1) ≡ true →
      meets_next after j j r + meets_next after i i r ≡ meets_next g j j r + meets_next g i i r
  nexts_within r in_r here next =
      nexts r _ _ _ _ (second_there r (omega arith) here) (second_there (r + 1) in_r next) (first_there r (omega arith) here)
      (first_there (r + 1) in_r next) ∙
      sum_swapped (meets_next g i i r) (meets_next g j j r)

  nexts_at_edge : (r : ℕ) → r + 1 < round_count g.teams → (among r || among (r + 1)) ≡ true → (among r && among (r + 1)) ≡ false →
      meets_next after j j r + meets_next after i i r ≡ meets_next g j i r + meets_next g i j r
  nexts_at_edge r in_r touched not_both = elim (cases_Bool (among r)) [
    | inl here ↦
        let next : among (r + 1) ≡ false = sym (ap (λ b. b && among (r + 1)) here) ∙ not_both in
        nexts r _ _ _ _ (second_there r (omega arith) here) (own_elsewhere j (r + 1) p.away_in in_r next)
        (first_there r (omega arith) here) (own_elsewhere i (r + 1) p.home_in in_r next) ∙
        sum_swapped (meets_next g i j r) (meets_next g j i r)
    | inr out ↦
        let next : among (r + 1) ≡ true = sym (ap (λ b. b || among (r + 1)) out) ∙ touched in
        nexts r _ _ _ _ (own_elsewhere j r p.away_in (omega arith) out) (second_there (r + 1) in_r next)
        (own_elsewhere i r p.home_in (omega arith) out) (first_there (r + 1) in_r next)
  ]

  pub edges_delta : (edges : ℕ → Bool) → ((r : ℕ) → r < round_count g.teams - 1 → edges r ≡ not (beq (among r) (among (r + 1)))) →
      repeats after + sum_where (round_count g.teams - 1) edges (λ r. meets_next g j j r + meets_next g i i r) ≡
      repeats g + sum_where (round_count g.teams - 1) edges (λ r. meets_next g j i r + meets_next g i j r)
  unfolding repeats_with
  edges_delta edges are_edges =
      of_edges (repeats after) (repeats g) (repeats_with after (is_either i j) among) (repeats_with g (is_either i j) among) _ _
      (repeats_balance_with g after (is_either i j) among meetings_differ)
      (sum_below_balance (round_count g.teams - 1)
      (λ r. if among r || among (r + 1) then repeats_with_after after (is_either i j) r else 0)
      (λ r. if among r || among (r + 1) then repeats_with_after g (is_either i j) r else 0)
      (λ r. if edges r then meets_next g j i r + meets_next g i j r else 0)
      (λ r. if edges r then meets_next g j j r + meets_next g i i r else 0)
      (λ r below.
      let in_r : r + 1 < round_count g.teams = omega arith in
      rw (are_edges r below)
      (edge_terms (among r) (among (r + 1)) _ _ _ _ (with_before r in_r)
      (λ both. let parts = and_parts (among r) (among (r + 1)) both in
      with_delta r in_r (or_left _ _ parts.0) ∙ nexts_within r in_r parts.0 parts.1)
      (λ touched not_both. with_delta r in_r touched ∙ nexts_at_edge r in_r touched not_both))))
