-- Counts by number of the games that pass a test, with one game more.
use Rattle.std.proofs.Common.{◌≡◌, ℕ, ◌+◌, ◌<◌, ◌≤◌, inl, inr, Bool, true, false, ◌&&◌, eqb, List, [], length, get_or, set, take, replicate}
use Rattle.std.proofs.Common.{sym, ◌∙◌, ap, arith, get_or-set_other, get_or-set_same, length-take}
use Rattle.std.specs.Prelude.{count_by}
use Rattle.std.proofs.lemmas.Bool.{and_from, and_left, and_right, cases_eq, eq-eqb, ne_eqb}
use Rattle.std.proofs.lemmas.List.{get_or-replicate, length-replicate, length-set}
use Rattle.std.proofs.lemmas.List.Sums.{count_by-le-length, count_by_more_no, count_by_more_yes}
use Rattle.fixtures.specs.declared.game.Game.{Game}

module _ (test : Game → Bool) (number : Game → ℕ) where
  -- the entry of each number is how many games of the list pass and have this number
  pub record Tallies (list : List Game) (places : ℕ) (counts : List ℕ) : Type 0 where
    pub size : length counts ≡ places
    pub each : (k : ℕ) → k < places → get_or counts k 0 ≡ count_by (λ x. test x && eqb (number x) k) list

  pub tallies_none : (places : ℕ) → Tallies [] places (replicate places 0)
  tallies_none places = record { size = length-replicate places 0; each = λ k below. get_or-replicate places k 0 0 below }

  pub tally_small : (list : List Game) (places i : ℕ) (counts : List ℕ) (k : ℕ) → k < places → Tallies (take i list) places counts →
      get_or counts k 0 ≤ i
  tally_small list places i counts k below has =
      omega (arith, has.each k below, count_by-le-length (λ x. test x && eqb (number x) k) (take i list), length-take i list)

  module _ (list : List Game) (places i : ℕ) (d : Game) (counts : List ℕ) (within : i < length list)
      (has : Tallies (take i list) places counts) where
    -- the game at this index passes, and its number has one more
    pub tallies_more : (k : ℕ) → test (get_or list i d) ≡ true → k ≡ number (get_or list i d) → k < places
        → Tallies (take (i + 1) list) places (set counts k (get_or counts k 0 + 1))
    tallies_more k passes is small = record {
      size = length-set counts k (get_or counts k 0 + 1) ∙ has.size;
      each = λ j below. elim (cases_eq j k) [
        | inl same ↦
            let yes = and_from _ _ passes (eq-eqb _ j (sym is ∙ sym same)) in
            let more = count_by_more_yes (λ y. test y && eqb (number y) j) list i d within yes in
            ap (λ (m : ℕ). get_or (set counts k (get_or counts k 0 + 1)) m 0) same
            ∙ get_or-set_same counts k (get_or counts k 0 + 1) 0 (omega (arith, has.size, small))
            ∙ ap (λ (m : ℕ). get_or counts m 0 + 1) (sym same)
            ∙ ap (λ (m : ℕ). m + 1) (has.each j below)
            ∙ sym more
        | inr other ↦
            let no = and_right (test (get_or list i d)) _ (ne_eqb (number (get_or list i d)) j (λ e. other (sym e ∙ sym is))) in
            get_or-set_other counts k j (get_or counts k 0 + 1) 0 other ∙ has.each j below
            ∙ sym (count_by_more_no (λ y. test y && eqb (number y) j) list i d within no)
      ];
    }

    -- it doesn't pass
    pub tallies_same : test (get_or list i d) ≡ false → Tallies (take (i + 1) list) places counts
    tallies_same fails = record {
      size = has.size;
      each = λ j below.
          has.each j below ∙ sym (count_by_more_no (λ y. test y && eqb (number y) j) list i d within (and_left _ _ fails));
    }
