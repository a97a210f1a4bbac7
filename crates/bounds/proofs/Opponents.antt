-- Sets of opponents, one more in each and one more of them.
use Rattle.std.proofs.Common.{◌≡◌, ◌≢◌, ℕ, ◌<◌, ◌==◌, ◌||◌, List, [], ◌∷◌, ◌++◌, length, sym, ◌∙◌, subst, inl, inr, arith, length-append}
use Rattle.std.proofs.lemmas.Bool.{cases_lt, ne_eqb, or_from}
use Rattle.std.proofs.lemmas.List.{get_or_append_left, get_or_at}
use Rattle.sets.specs.Sets.{has, IsBelow}
use Rattle.bounds.specs.within.Prices.{IsOfOpponents, AreOfOpponents}

pub opponent_more : (n home set next new : ℕ) → IsOfOpponents n home set → next < n → next ≢ home →
    ((t : ℕ) → has new t ≡ (t == next || has set t)) → ((m : ℕ) → IsBelow m set → next < m → IsBelow m new) → IsOfOpponents n home new
opponent_more n home set next new is next_in other members below = record {
  below = below n is.below next_in;
  away = members home ∙ or_from (home == next) (has set home) (ne_eqb home next (λ e. other (sym e))) is.away;
}

pub set_more : (n home set : ℕ) (sets : List ℕ) → AreOfOpponents n home sets → IsOfOpponents n home set →
    AreOfOpponents n home (sets ++ set ∷ [])
set_more n home set sets are is = record {
  each = λ k below. elim (cases_lt k (length sets)) [
    | inl before ↦
        subst (IsOfOpponents n home) (sym (get_or_append_left sets (set ∷ []) 0 k before)) (are.each k before)
    | inr last ↦
        subst (IsOfOpponents n home)
        (sym (get_or_at sets set [] 0 k (omega (arith, last, below, length-append sets (set ∷ []))))) is
  ];
}
