-- The legs of two teams that are exchanged, at an edge of the set: one of the two rounds is in it.
use Rattle.std.proofs.Common.{◌≡◌, ◌≢◌, ℕ, ◌+◌, ◌-◌, ◌<◌, Bool, true, false, not, ◌&&◌, ◌||◌, inl, inr, get_or}
use Rattle.std.proofs.Common.{refl, sym, ◌∙◌, ap, ap₂, arith}
use Rattle.std.specs.Prelude.{◌==◌, nat_lt}
use Rattle.std.proofs.lemmas.Bool.{cases_lt, false≢true}
use Rattle.std.proofs.lemmas.Bool.Decides.{nat_tests}
use Rattle.league.specs.League.{LeagueData, distance}
use Rattle.fixtures.specs.Games.{Games, round_count}
use Rattle.fixtures.specs.Edits.{exchanged}
use Rattle.tours.specs.Tours.{tour, leg}
use Rattle.tours.specs.within.Delta.{in_rounds, leg_predicted}
use Rattle.tours.proofs.exchanged_legs.TeamsDelta.{at_round, delta_out, delta_first, delta_second}

-- two teams have a round
pub some_round : (n i j : ℕ) → i < n → j < n → i ≢ j → 0 < round_count n
some_round n i j in_i in_j distinct = elim (cases_lt 1 n) [
  | inl more ↦ omega arith
  | inr one ↦ absurd (distinct (omega arith))
]

-- the first legs, where the first round is in the set
pub delta_at_start : (l : LeagueData) (g : Games) (i j : ℕ) (rounds : ℕ → Bool) → 0 < round_count g.teams → rounds 0 ≡ true →
    distance l (get_or (tour g j) 0 0) (exchanged i j (get_or (tour g i) 1 0)) +
    distance l (get_or (tour g i) 0 0) (exchanged i j (get_or (tour g j) 1 0)) ≡
    leg_predicted l g i j rounds j 0 + leg_predicted l g i j rounds i 0
delta_at_start l g i j rounds some is =
    ap₂ (λ x y. x + y)
    (ap₂ (distance l) (sym (delta_out g i j rounds j 0 refl)) (sym (delta_second g i j rounds 1 first_in)))
    (ap₂ (distance l) (sym (delta_out g i j rounds i 0 refl)) (sym (delta_first g i j rounds 1 first_in)))
  where
    first_in : in_rounds g rounds 1 ≡ true
    first_in = at_round 1 (round_count g.teams) (rounds 0) (omega arith) some ∙ is

-- after a round

pub one_of_two : (a b : Bool) → ((a || b) && not (a && b)) ≡ true → b ≡ not a
one_of_two true true e = absurd (false≢true e)
one_of_two true false e = refl
one_of_two false true e = refl
one_of_two false false e = absurd (false≢true e)

out_after : (k n : ℕ) (at : Bool) → at ≡ false → (not (k == 0) && (nat_lt (k - 1) n && at)) ≡ false
out_after k n at out = grind (arith, nat_tests, out)

module _ (l : LeagueData) (symmetric : (a b : ℕ) → distance l a b ≡ distance l b a) (g : Games) (i j : ℕ)
    (rounds : ℕ → Bool) (s : ℕ) (in_s : s < round_count g.teams) where
  abbrev at : ℕ → ℕ → ℕ
  at t k = get_or (tour g t) k 0

  two_on : s + 1 + 1 ≡ s + 2
  two_on = omega arith

  here : in_rounds g rounds (s + 1) ≡ rounds s
  here =
      let back : s + 1 - 1 ≡ s = omega arith in
      at_round (s + 1) (round_count g.teams) (rounds (s + 1 - 1)) (omega arith) (omega arith) ∙ ap rounds back

  next_out : rounds (s + 1) ≡ false → in_rounds g rounds (s + 1 + 1) ≡ false
  next_out out =
      let back : s + 1 + 1 - 1 ≡ s + 1 = omega arith in
      out_after (s + 1 + 1) (round_count g.teams) (rounds (s + 1 + 1 - 1)) (ap rounds back ∙ out)

  next_in : s + 1 < round_count g.teams → rounds (s + 1) ≡ true → in_rounds g rounds (s + 1 + 1) ≡ true
  next_in in_next is =
      let back : s + 1 + 1 - 1 ≡ s + 1 = omega arith in
      at_round (s + 1 + 1) (round_count g.teams) (rounds (s + 1 + 1 - 1)) (omega arith) (omega arith) ∙ ap rounds back ∙ is

  pub now_first : distance l (at j (s + 2)) (at j (s + 1)) + distance l (at i (s + 2)) (at i (s + 1)) ≡
      leg l g j (s + 1) + leg l g i (s + 1)
  unfolding leg
  now_first = ap₂ (λ x y. x + y) (back j) (back i)
    where
      back : (t : ℕ) → distance l (at t (s + 2)) (at t (s + 1)) ≡ distance l (at t (s + 1)) (at t (s + 1 + 1))
      back t = symmetric (at t (s + 2)) (at t (s + 1)) ∙ ap (λ k. distance l (at t (s + 1)) (at t k)) (sym two_on)

  pub now_second : distance l (at j (s + 1)) (at j (s + 2)) + distance l (at i (s + 1)) (at i (s + 2)) ≡
      leg l g j (s + 1) + leg l g i (s + 1)
  unfolding leg
  now_second =
      ap (λ k. distance l (at j (s + 1)) (at j k) + distance l (at i (s + 1)) (at i k)) (sym two_on)

  pub delta_at_first : rounds s ≡ true → rounds (s + 1) ≡ false →
      distance l (at j (s + 2)) (exchanged i j (at i (s + 1))) + distance l (at i (s + 2)) (exchanged i j (at j (s + 1))) ≡
      leg_predicted l g i j rounds j (s + 1) + leg_predicted l g i j rounds i (s + 1)
  delta_at_first is out =
      ap₂ (λ x y. x + y)
      (symmetric (at j (s + 2)) (exchanged i j (at i (s + 1))) ∙
      ap₂ (distance l) (sym (delta_second g i j rounds (s + 1) (here ∙ is)))
      (ap (at j) (sym two_on) ∙ sym (delta_out g i j rounds j (s + 1 + 1) (next_out out))))
      (symmetric (at i (s + 2)) (exchanged i j (at j (s + 1))) ∙
      ap₂ (distance l) (sym (delta_first g i j rounds (s + 1) (here ∙ is)))
      (ap (at i) (sym two_on) ∙ sym (delta_out g i j rounds i (s + 1 + 1) (next_out out))))

  pub delta_at_second : rounds s ≡ false → s + 1 < round_count g.teams → rounds (s + 1) ≡ true →
      distance l (at j (s + 1)) (exchanged i j (at i (s + 2))) + distance l (at i (s + 1)) (exchanged i j (at j (s + 2))) ≡
      leg_predicted l g i j rounds j (s + 1) + leg_predicted l g i j rounds i (s + 1)
  delta_at_second out in_next is =
      ap₂ (λ x y. x + y)
      (ap₂ (distance l) (sym (delta_out g i j rounds j (s + 1) (here ∙ out)))
      (ap (λ k. exchanged i j (at i k)) (sym two_on) ∙ sym (delta_second g i j rounds (s + 1 + 1) (next_in in_next is))))
      (ap₂ (distance l) (sym (delta_out g i j rounds i (s + 1) (here ∙ out)))
      (ap (λ k. exchanged i j (at j k)) (sym two_on) ∙ sym (delta_first g i j rounds (s + 1 + 1) (next_in in_next is))))
