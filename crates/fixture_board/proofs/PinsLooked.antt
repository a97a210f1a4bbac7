-- An exchange gives a pinned game another round where it does so to the game of one of the pinned pairs.
use Rattle.std.proofs.Common.{◌≡◌, ◌≢◌, ℕ, Bool, true, false, not, ◌==◌, inl, inr, List, refl, sym, ◌∙◌, ap, arith}
use Rattle.std.proofs.lemmas.Bool.{cases_eq, not-true, eqb-false, ne_eqb, true≢false, true_from_ne_false}
use Rattle.league.specs.Pairs.{has_pair}
use Rattle.fixtures.specs.declared.game.Game.{Game}
use Rattle.fixtures.specs.Games.{Games, round_of, IsPair}
use Rattle.fixtures.specs.declared.exchanges.Exchange.{Exchange}
use Rattle.fixtures.specs.Exchanges.{exchanged_by, IsExchange}
use Rattle.fixtures.specs.Kept.{moves_one_of}
use Rattle.fixtures.proofs.ForCallers.{moves_one_of_kept, moves_one_of_yes}
use Rattle.fixture_board.specs.History.{is_pinned, moves_pin, AllStand}
use Rattle.fixture_board.specs.within.PinTable.{free, pin_at, ArePinsAt, ArePinnedPairs}
use Rattle.fixture_board.proofs.PinTable.{entry-pinned, moves_pin-none, moves_pin-some}

module _ (g : Games) (exchange : Exchange) (can : IsExchange g exchange) (table pairs : List ℕ)
    (members : ArePinnedPairs table pairs) (pins : List Game) (all : AllStand g pins) (are : ArePinsAt g pins table) where
  abbrev after : Games
  after = exchanged_by g exchange

  pair_is : (h a : ℕ) → IsPair g.teams h a → has_pair pairs h a ≡ not (pin_at table h a == free)
  pair_is h a pair =
      members.members h a (omega (arith, pair.home_in, can.round_robin.most)) (omega (arith, pair.away_in, can.round_robin.most))

  stands : (h a : ℕ) → IsPair g.teams h a → pin_at table h a ≢ free → pin_at table h a ≡ round_of g h a
  stands h a pair pin = (entry-pinned (is_pinned pins h a) (round_of g h a) (pin_at table h a) (are h a pair) pin).1

  kept : moves_pin after pins ≡ false → (h a : ℕ) → IsPair g.teams h a → has_pair pairs h a ≡ true →
      round_of after h a ≡ round_of g h a
  kept none h a pair is =
      let pin : pin_at table h a ≢ free = eqb-false (pin_at table h a) free (not-true _ (sym (pair_is h a pair) ∙ is)) in
      elim (cases_eq (round_of after h a) (pin_at table h a)) [
        | inl same ↦ same ∙ stands h a pair pin
        | inr apart ↦ absurd (true≢false (sym (moves_pin-some g after pins table h a all are pair pin apart) ∙ none))
      ]

  still : moves_one_of g after pairs ≡ false → (h a : ℕ) → IsPair g.teams h a → pin_at table h a ≢ free →
      round_of after h a ≡ pin_at table h a
  still none h a pair pin = elim (cases_eq (round_of after h a) (round_of g h a)) [
    | inl same ↦ same ∙ sym (stands h a pair pin)
    | inr apart ↦
        let is : has_pair pairs h a ≡ true = pair_is h a pair ∙ ap not (ne_eqb (pin_at table h a) free pin) in
        absurd (true≢false (sym (moves_one_of_yes g after pairs h a pair is apart) ∙ none))
  ]

  pub moves_pin-looked : moves_one_of g after pairs ≡ moves_pin after pins
  moves_pin-looked = by (moves_pin after pins) refl
    where
      by : (moves : Bool) → moves_pin after pins ≡ moves → moves_one_of g after pairs ≡ moves
      by true moved =
          true_from_ne_false (moves_one_of g after pairs)
          (λ none. true≢false (sym moved ∙ moves_pin-none g after pins table can.round_robin all are (still none)))
      by false none = moves_one_of_kept g exchange can pairs (kept none)
