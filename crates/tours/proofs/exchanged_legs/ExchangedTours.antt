-- The legs of tours in which two rounds are exchanged.
use Rattle.std.proofs.Common.{◌≡◌, ℕ, ◌+◌, ◌-◌, ◌<◌, ◌≤◌, Bool, true, inl, inr, get_or, refl, sym, ◌∙◌, ap, arith}
use Rattle.std.proofs.lemmas.Bool.{cases_eq, cases_lt, cond-true}
use Rattle.league.specs.League.{LeagueData}
use Rattle.league.specs.Sums.{sum_where}
use Rattle.league.proofs.ForCallers.{sum_where_same}
use Rattle.fixtures.specs.Games.{Games, round_count, place, IsDoubleRoundRobin}
use Rattle.fixtures.specs.Edits.{exchanged, rounds_exchanged}
use Rattle.fixtures.specs.Closed.{IsClosed, plays_in}
use Rattle.fixtures.proofs.ForCallers.{exchanged_first, exchanged_second, exchanged_other, exchanged_lt, cell_rounds_exchanged}
use Rattle.tours.specs.Tours.{tour, leg_count, leg}
use Rattle.tours.specs.Parts.{touches_leg, travel_part_of, travel_part}
use Rattle.tours.specs.within.Walked.{leg_exchanged}
use Rattle.tours.proofs.stops.Stops.{tour_at_round, tour_at_end}

-- the legs, with the places of rounds k and m exchanged, of the teams of the first set that touch a round of the second
abbrev pub legs_exchanged : LeagueData → Games → ℕ → ℕ → (ℕ → Bool) → (ℕ → Bool) → ℕ
legs_exchanged l g k m teams rounds =
    sum_where g.teams teams (λ t. sum_where (leg_count g) (touches_leg g rounds) (leg_exchanged l g k m t))

-- rounds k and l exchanged for the teams of a set that has their opponents

pub exchanged_next : (k l r : ℕ) → exchanged (k + 1) (l + 1) (r + 1) ≡ exchanged k l r + 1
exchanged_next k l r = elim (cases_eq r k) [
  | inl e ↦
      ap (λ x. exchanged (k + 1) (l + 1) (x + 1)) e ∙ exchanged_first (k + 1) (l + 1) ∙
      sym (ap (λ x. exchanged k l x + 1) e ∙ ap (λ x. x + 1) (exchanged_first k l))
  | inr not_k ↦ elim (cases_eq r l) [
    | inl e ↦
        ap (λ x. exchanged (k + 1) (l + 1) (x + 1)) e ∙ exchanged_second (k + 1) (l + 1) ∙
        sym (ap (λ x. exchanged k l x + 1) e ∙ ap (λ x. x + 1) (exchanged_second k l))
    | inr not_l ↦
        exchanged_other (k + 1) (l + 1) (r + 1) (λ e. not_k (omega arith)) (λ e. not_l (omega arith)) ∙
        sym (ap (λ x. x + 1) (exchanged_other k l r not_k not_l))
  ]
]

module _ (l : LeagueData) (g : Games) (rr : IsDoubleRoundRobin g) (k m : ℕ) (in_k : k < round_count g.teams)
    (in_m : m < round_count g.teams) (among : ℕ → Bool) (closed : IsClosed (plays_in g k m) among) where
  abbrev after : Games
  after = rounds_exchanged g k m among

  place_after : (t r : ℕ) → t < g.teams → among t ≡ true → r < round_count g.teams →
      place after t r ≡ place g t (exchanged k m r)
  unfolding place
  place_after t r in_t is_in in_r =
      rw (cell_rounds_exchanged g rr k m in_k in_m among closed t r in_t in_r ∙ cond-true _ _ _ is_in) refl

  stop_after : (t r : ℕ) → t < g.teams → among t ≡ true → r ≤ round_count g.teams + 1 →
      get_or (tour after t) r 0 ≡ get_or (tour g t) (exchanged (k + 1) (m + 1) r) 0
  stop_after t r in_t is_in in_tour = elim (cases_eq r 0) [
    | inl first ↦
        ap (λ x. get_or (tour after t) x 0) first ∙
        sym (ap (λ x. get_or (tour g t) x 0)
        (exchanged_other (k + 1) (m + 1) r (λ e. omega arith) (λ e. omega arith) ∙ first))
    | inr some ↦ elim (cases_lt (round_count g.teams) r) [
      | inl at_end ↦
          let last : r ≡ round_count g.teams + 1 = omega arith in
          ap (λ x. get_or (tour after t) x 0) last ∙ tour_at_end after t ∙
          sym (ap (λ x. get_or (tour g t) x 0)
          (exchanged_other (k + 1) (m + 1) r (λ e. omega arith) (λ e. omega arith) ∙ last) ∙ tour_at_end g t)
      | inr in_season ↦
          let next : r ≡ (r - 1) + 1 = omega arith in
          let in_r : r - 1 < round_count g.teams = omega arith in
          ap (λ x. get_or (tour after t) x 0) next ∙ tour_at_round after t (r - 1) in_r ∙
          place_after t (r - 1) in_t is_in in_r ∙
          sym (ap (λ x. get_or (tour g t) x 0) (ap (exchanged (k + 1) (m + 1)) next ∙ exchanged_next k m (r - 1)) ∙
          tour_at_round g t (exchanged k m (r - 1)) (exchanged_lt (round_count g.teams) k m (r - 1) in_k in_m in_r))
    ]
  ]

  leg_after : (t r : ℕ) → t < g.teams → among t ≡ true → r < leg_count g → leg_exchanged l g k m t r ≡ leg l after t r
  unfolding leg
  leg_after t r in_t is_in in_r =
      rw (stop_after t r in_t is_in (omega arith), stop_after t (r + 1) in_t is_in (omega arith)) refl

  pub legs_after : (rounds : ℕ → Bool) → legs_exchanged l g k m among rounds ≡ travel_part l after among rounds
  unfolding travel_part travel_part_of touches_leg
  legs_after rounds =
      sum_where_same g.teams among among (λ t. sum_where (leg_count g) (touches_leg g rounds) (leg_exchanged l g k m t))
      (λ t. sum_where (leg_count g) (touches_leg g rounds) (leg l after t)) (λ t in_t. refl)
      (λ t in_t is_in. sum_where_same (leg_count g) (touches_leg g rounds) (touches_leg g rounds) (leg_exchanged l g k m t)
      (leg l after t) (λ r in_r. refl) (λ r in_r touched. leg_after t r in_t is_in in_r))
