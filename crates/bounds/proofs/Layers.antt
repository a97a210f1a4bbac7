-- The labels of one game more leave those of fewer as they were.
use Rattle.std.proofs.Common.{◌≡◌, ◌≢◌, ℕ, ◌+◌, ◌<◌, ◌≤◌, List, ap, inl, inr, arith}
use Rattle.std.proofs.lemmas.Bool.{cases_eq}
use Rattle.sets.specs.Limits.{max_teams}
use Rattle.bounds.specs.declared.labels.Label.{Label}
use Rattle.bounds.specs.within.Tables.{IsOpponent, AreWalks, label_at, walk_at, to_of}

pub one_layer_more : (n home games : ℕ) (leg : ℕ → ℕ → ℕ) (old new : List Label) → n ≤ max_teams → 1 ≤ games
    → AreWalks n home games leg (walk_at old)
    → ((g j : ℕ) → g ≤ games → j < max_teams → label_at new g j ≡ label_at old g j)
    → ((j e x : ℕ) → IsOpponent n home j → e < n → j ≢ e → x ≢ j → walk_at new (games + 1) e x ≤ walk_at old games j e + leg j e)
    → AreWalks n home (games + 1) leg (walk_at new)
one_layer_more n home games leg old new forty some before kept next = record {
  first = λ j x is_j not_home. omega (arith, same 1 j x some is_j.team, before.first j x is_j not_home);
  next = λ g j e x some_g below is_j is_e other not_from. elim (cases_eq g games) [
    | inl last ↦ omega (
      arith,
      ap (λ m. walk_at new (m + 1) e x) last,
      ap (λ m. walk_at new m j e) last,
      same games j e (omega arith) is_j.team,
      next j e x is_j is_e.team other not_from,
    )
    | inr earlier ↦ omega (
      arith,
      same g j e (omega arith) is_j.team,
      same (g + 1) e x (omega arith) is_e.team,
      before.next g j e x some_g (omega arith) is_j is_e other not_from,
    )
  ];
}
  where
    same : (g j x : ℕ) → g ≤ games → j < n → walk_at new g j x ≡ walk_at old g j x
    same g j x in_g in_j = ap (λ label. to_of label x) (kept g j in_g (omega arith))
