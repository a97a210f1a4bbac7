-- The places of a tour, one after another.
use Rattle.std.proofs.Common.{◌≡◌, ℕ, ◌+◌, ◌-◌, ◌<◌, ◌≤◌, [], ◌∷◌, map, get_or, inl, inr, sym, ◌∙◌, ap, arith}
use Rattle.std.proofs.Math.Numerals.{add-one}
use Rattle.std.specs.List.{range_with_len}
use Rattle.std.proofs.lemmas.List.{get_or_append_left, get_or_at}
use Rattle.std.proofs.lemmas.List.FromFn.{get_or-map-range_with_len, length-map-range_with_len}
use Rattle.std.proofs.lemmas.Bool.{cases_eq, cases_lt}
use Rattle.fixtures.specs.Games.{Games, round_count, place, stop}
use Rattle.fixtures.proofs.ForCallers.{stop_first, stop_last, stop_between}
use Rattle.tours.specs.Tours.{tour}

-- after a round the team is at the place of its game
pub tour_at_round : (g : Games) (team r : ℕ) → r < round_count g.teams → get_or (tour g team) (r + 1) 0 ≡ place g team r
tour_at_round g team r in_r =
    rw add-one
    (get_or_append_left (map (place g team) (range_with_len 0 (round_count g.teams))) (team ∷ []) 0 r
    (omega (arith, length-map-range_with_len (place g team) 0 (round_count g.teams)))
    ∙ get_or-map-range_with_len (place g team) 0 (round_count g.teams) r r 0 in_r (omega arith))

-- at the end it is at home
pub tour_at_end : (g : Games) (team : ℕ) → get_or (tour g team) (round_count g.teams + 1) 0 ≡ team
tour_at_end g team =
    rw add-one
    (get_or_at (map (place g team) (range_with_len 0 (round_count g.teams))) team [] 0 (round_count g.teams)
    (length-map-range_with_len (place g team) 0 (round_count g.teams)))

-- each place of the tour is a stop
pub tour_stop : (g : Games) (team index : ℕ) → index ≤ round_count g.teams + 1 → stop g team index ≡ get_or (tour g team) index 0
tour_stop g team index in_tour = elim (cases_eq index 0) [
  | inl first ↦ stop_first g team index first ∙ sym (ap (λ x. get_or (tour g team) x 0) first)
  | inr some ↦ elim (cases_lt (round_count g.teams) index) [
    | inl after ↦
        let at_end : index ≡ round_count g.teams + 1 = omega arith in
        stop_last g team index after ∙ sym (ap (λ x. get_or (tour g team) x 0) at_end ∙ tour_at_end g team)
    | inr in_season ↦
        let next : index ≡ (index - 1) + 1 = omega arith in
        stop_between g team index (omega arith) in_season ∙
        sym (ap (λ x. get_or (tour g team) x 0) next ∙ tour_at_round g team (index - 1) (omega arith))
  ]
]
