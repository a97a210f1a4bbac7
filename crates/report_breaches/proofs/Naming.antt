-- Whether a breach at one place names a game.
use Rattle.std.proofs.Common.{◌≡◌, ℕ, false, inl, inr, refl, arith}
use Rattle.std.specs.Prelude.{◌&&◌, nat_lt}
use Rattle.std.specs.List.{list_any}
use Rattle.std.proofs.lemmas.Bool.{cases_Bool, cases_eq, eq-eqb, ne_eqb, lt-ltb, le-ltb}
use Rattle.league.specs.declared.rule.RuleBody.{RuleBody}
use Rattle.league.specs.declared.rule.RuleBody.TheVariants.{Fa2}
use Rattle.fixtures.specs.Games.{Games}
use Rattle.report_breaches.specs.declared.breach.Place.{Place}
use Rattle.report_breaches.specs.Breaches.{breach_at}
use Rattle.report_breaches.specs.Cells.{names, names_cell}

-- it does if it is one and its place does
pub any_at : (g : Games) (body : RuleBody) (team round : ℕ) (place : Place) (by : ℕ) →
    list_any (names g body team round) (breach_at place by) ≡ (names_cell g body place team round && nat_lt 0 by)
any_at g body team round place by = elim (cases_Bool (names_cell g body place team round)) [
  | inl named ↦ elim (cases_eq by 0) [
    | inl none ↦ rw (eq-eqb by 0 none, named, le-ltb 0 by (omega (arith, none))) refl
    | inr some ↦ rw (ne_eqb by 0 some, named, lt-ltb 0 by (omega (arith, some))) refl
  ]
  | inr unnamed ↦ elim (cases_eq by 0) [
    | inl none ↦ rw (eq-eqb by 0 none, unnamed) refl
    | inr some ↦ rw (ne_eqb by 0 some, unnamed) refl
  ]
]

-- a breach of FA2 names none
pub none_of_fa2 : (g : Games) (teams slots most team round : ℕ) (place : Place) (by : ℕ) →
    list_any (names g (Fa2 teams slots most) team round) (breach_at place by) ≡ false
unfolding names_cell
none_of_fa2 g teams slots most team round place by = elim (cases_eq by 0) [
  | inl none ↦ rw (eq-eqb by 0 none) refl
  | inr some ↦ rw (ne_eqb by 0 some) refl
]
