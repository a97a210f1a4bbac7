-- The breaches of a rule stand in rows.
use Rattle.std.proofs.Common.{◌≡◌, ℕ, zero, suc, ◌+◌, add-one, append_assoc, Bool, true, false, refl, ◌∙◌, ap, List, ◌++◌}
use Rattle.std.specs.Prelude.{◌||◌, map}
use Rattle.std.specs.List.{list_any}
use Rattle.std.proofs.Math.Numerals.{suc-eq-add-one}
use Rattle.std.proofs.lemmas.List.{map-append}
use Rattle.std.proofs.lemmas.List.Folds.{concat-append, list_any-append}
use Rattle.byte_streams.specs.Pieces.{pieces_below}
use Rattle.league.specs.Sums.{any_below}
use Rattle.league.specs.declared.rule.RuleBody.{RuleBody}
use Rattle.league.specs.declared.rule.RuleBody.TheVariants.{Ca1, Ca2, Ca3, Ca4, Ga1, Br1, Br2, Se1, Fa2}
use Rattle.fixtures.specs.Games.{Games}
use Rattle.report_breaches.specs.declared.breach.Breach.{Breach}
use Rattle.report_breaches.specs.Breaches.{breaches_below, breaches_of}
use Rattle.report_breaches.specs.BreachText.{breach_line, lines_of}
use Rattle.report_breaches.specs.within.Terms.{row_count, breaches_in_row}

abbrev pub breaches_in_rows : Games → RuleBody → List Breach
breaches_in_rows g body = breaches_below (row_count g body) (breaches_in_row g body)

pub in_rows : (g : Games) (body : RuleBody) → breaches_of g body ≡ breaches_in_rows g body
unfolding breaches_of
in_rows g (Ca1 teams side slots most) = refl
in_rows g (Ca2 teams1 side teams2 slots most) = refl
in_rows g (Ca3 teams1 side teams2 window most) = refl
in_rows g (Ca4 teams1 side teams2 slots false most) = refl
in_rows g (Ca4 teams1 side teams2 slots true most) = refl
in_rows g (Ga1 games slots least most) = refl
in_rows g (Br1 teams side slots most) = refl
in_rows g (Br2 teams slots most) = refl
in_rows g (Se1 teams least) = refl
in_rows g (Fa2 teams slots most) = refl

-- the breaches of one number more are added
pub breaches_added : (a b c : List Breach) (breaches : ℕ → List Breach) (n : ℕ) → b ≡ a ++ breaches_below n breaches → c ≡ b ++ breaches n →
    c ≡ a ++ breaches_below (n + 1) breaches
breaches_added a b c breaches n so_far next = rw (add-one, next, so_far) (append_assoc a (breaches_below n breaches) (breaches n))

-- the lines of breaches below a number, one after another
pub lines_below : (g : Games) (rule : ℕ) (body : RuleBody) (n : ℕ) (breaches : ℕ → List Breach) →
    lines_of g rule body (breaches_below n breaches) ≡ pieces_below (λ k. lines_of g rule body (breaches k)) n
lines_below g rule body zero breaches = refl
lines_below g rule body (suc n) breaches =
    rw (map-append (breach_line g rule body) (breaches_below n breaches) (breaches n))
    (concat-append (map (breach_line g rule body) (breaches_below n breaches)) (map (breach_line g rule body) (breaches n)) ∙ ap (λ text. text ++ lines_of g rule body (breaches n)) (lines_below g rule body n breaches))

-- whether one of them passes a test
pub any_of_below : (test : Breach → Bool) (n : ℕ) (breaches : ℕ → List Breach) →
    list_any test (breaches_below n breaches) ≡ any_below n (λ k. list_any test (breaches k))
unfolding any_below
any_of_below test zero breaches = refl
any_of_below test (suc n) breaches =
    list_any-append test (breaches_below n breaches) (breaches n) ∙
    ap (λ (b : Bool). b || list_any test (breaches n)) (any_of_below test n breaches)

-- one more doesn't
pub any_not_yet : (n : ℕ) (test : ℕ → Bool) → any_below n test ≡ false → test n ≡ false → any_below (n + 1) test ≡ false
unfolding any_below
any_not_yet n test before here = rw (← suc-eq-add-one n) (rw (before, here) refl)
