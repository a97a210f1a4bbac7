-- Histories that go on as another one began.
use Rattle.std.proofs.Common.{◌≡◌, ℕ, zero, suc, ◌+◌, ◌-◌, ◌≤◌, List, [], ◌∷◌, ◌++◌, length, take, Option, Some, None, refl, sym, ◌∙◌, ap, subst, inl, inr, append_assoc, append-nil, length-append, arith}
use Rattle.std.specs.Prelude.{All}
use Rattle.std.proofs.lemmas.Bool.{cases_lt}
use Rattle.std.proofs.lemmas.List.{length-take, take-append-le}
use Rattle.std.proofs.lemmas.List.Elements.{All-append, All-take, All-push}
use Rattle.std.proofs.Math.Seq.{take-append-add, take-length}
use Rattle.league.specs.League.{LeagueData}
use Rattle.moves.specs.declared.moves.MoveKind.{MoveKind}
use Rattle.fixture_board.specs.declared.change.Entry.{Entry}
use Rattle.fixture_board.specs.History.{best_prefix, IsBestOf}
use Rattle.fixture_board.specs.Rewound.{rewound}
use Rattle.fixture_board.proofs.Least.{best_prefix-is_best}
use Rattle.annealing.specs.Legs.{GoesOn, IsAdded}

take-take : {A : Type 0} (j k : ℕ) (xs : List A) → j ≤ k → take j (take k xs) ≡ take j xs
take-take zero k xs less = refl
take-take (suc j) zero xs less = absurd (omega arith)
take-take (suc j) (suc k) [] less = refl
take-take (suc j) (suc k) (x ∷ xs) less = ap (λ rest. x ∷ rest) (take-take j k xs (omega arith))

none : (among : List MoveKind) → All (IsAdded among) []
none among k d inside = absurd (omega arith)

-- a beginning of a history goes on as the history does
pub GoesOn-take : (among : List MoveKind) (n : ℕ) (h : List Entry) → GoesOn among 0 h (take n h)
GoesOn-take among n h = record {
  kept = n;
  added = [];
  is = sym (append-nil (take n h));
  are = none among;
  few = omega arith;
}

pub GoesOn-same : (among : List MoveKind) (h : List Entry) → GoesOn among 0 h h
GoesOn-same among h = subst (GoesOn among 0 h) (take-length h) (GoesOn-take among (length h) h)

-- an entry more
pub GoesOn-more : {among : List MoveKind} {most : ℕ} {old new : List Entry} (e : Entry) → GoesOn among most old new → IsAdded among e →
    GoesOn among (most + 1) old (new ++ e ∷ [])
GoesOn-more {among} e goes is = record {
  kept = goes.kept;
  added = goes.added ++ e ∷ [];
  is = ap (λ h. h ++ e ∷ []) goes.is ∙ append_assoc _ goes.added (e ∷ []);
  are = All-push (IsAdded among) goes.added e goes.are is;
  few = omega (arith, length-append goes.added (e ∷ []), goes.few);
}

pub GoesOn-wider : {among : List MoveKind} {most : ℕ} {old new : List Entry} (more : ℕ) → GoesOn among most old new → most ≤ more →
    GoesOn among more old new
GoesOn-wider more goes less = record {
  kept = goes.kept;
  added = goes.added;
  is = goes.is;
  are = goes.are;
  few = omega (arith, goes.few);
}

-- what goes on from the part that was kept
on_from_kept : {among : List MoveKind} {most more : ℕ} {old mid new : List Entry} (first : GoesOn among most old mid)
    (second : GoesOn among more mid new) → second.kept ≤ length (take first.kept old) → GoesOn among (most + more) old new
on_from_kept {old = old} {mid = mid} first second early =
    let within : second.kept ≤ first.kept = omega (arith, length-take first.kept old) in
    let same : take second.kept mid ≡ take second.kept old =
    ap (take second.kept) first.is ∙ take-append-le second.kept (take first.kept old) first.added early ∙ take-take second.kept first.kept old within in
    record {
      kept = second.kept;
      added = second.added;
      is = second.is ∙ ap (λ h. h ++ second.added) same;
      are = second.are;
      few = omega (arith, second.few);
    }

-- what goes on from a part of what was added
on_from_added : {among : List MoveKind} {most more : ℕ} {old mid new : List Entry} (first : GoesOn among most old mid)
    (second : GoesOn among more mid new) → length (take first.kept old) ≤ second.kept → GoesOn among (most + more) old new
on_from_added {among} {old = old} {mid = mid} first second late =
    let start : List Entry = take first.kept old in
    let part : ℕ = second.kept - length start in
    let whole : second.kept ≡ length start + part = omega arith in
    let same : take second.kept mid ≡ start ++ take part first.added =
    ap (λ n. take n mid) whole ∙ ap (take (length start + part)) first.is ∙ take-append-add start first.added part in
    record {
      kept = first.kept;
      added = take part first.added ++ second.added;
      is = second.is ∙ ap (λ h. h ++ second.added) same ∙ append_assoc start (take part first.added) second.added;
      are = All-append (IsAdded among) (take part first.added) second.added (All-take (IsAdded among) part first.added first.are) second.are;
      few = omega (arith, length-append (take part first.added) second.added, length-take part first.added, first.few, second.few);
    }

pub GoesOn-then : {among : List MoveKind} {most more : ℕ} {old mid new : List Entry} → GoesOn among most old mid → GoesOn among more mid new →
    GoesOn among (most + more) old new
GoesOn-then {old = old} first second =
    elim (cases_lt second.kept (length (take first.kept old))) [
      | inl early ↦ on_from_kept first second (omega arith)
      | inr late ↦ on_from_added first second late
    ]

-- back to the best version
on_to_best : (among : List MoveKind) (league : LeagueData) (h : List Entry) (found : Option (List Entry)) → best_prefix league h ≡ found →
    IsBestOf league h found → GoesOn among 0 h (rewound league h)
on_to_best among league h None is best = rw is (GoesOn-same among h)
on_to_best among league h (Some p) is best =
    rw is (subst (GoesOn among 0 h) (sym best.prefix) (GoesOn-take among (length p) h))

pub GoesOn-rewound : (among : List MoveKind) (league : LeagueData) (h : List Entry) → GoesOn among 0 h (rewound league h)
GoesOn-rewound among league h = on_to_best among league h (best_prefix league h) refl (best_prefix-is_best league h)
