-- Which games breaches name.
use Rattle.std.proofs.Common.{◌≡◌, ℕ, ◌+◌, ◌&&◌, ◌||◌, ◌==◌, nat_lt, Bool, true, false, List, Some, inl, inr, take, refl, sym, ap, ◌∙◌, arith}
use Rattle.std.specs.List.{list_any, slice_get}
use Rattle.std.proofs.lemmas.Bool.{cases_eq, false≢true, ne_eqb}
use Rattle.std.proofs.lemmas.Bool.Decides.{nat_tests}
use Rattle.std.proofs.lemmas.List.Folds.{list_any_more}
use Rattle.std.proofs.lemmas.Option.{slice_get_within, get_or_from_slice_get}
use Rattle.league.specs.declared.rule.Rule.{Rule}
use Rattle.league.specs.declared.rule.RuleBody.{RuleBody}
use Rattle.league.specs.declared.rule.RuleBody.TheVariants.{Ca1, Ca2, Ca3, Ca4, Ga1, Br1, Br2, Se1, Fa2}
use Rattle.fixtures.specs.Games.{Games, cell}
use Rattle.report_breaches.specs.declared.breach.Place.{Place}
use Rattle.report_breaches.specs.declared.breach.Place.TheVariants.{GamesOf, BreaksOf, Window, Round, Together, GamesOver, GamesUnder, Pair, PairIn}
use Rattle.report_breaches.specs.Cells.{is_at, is_marked, names_cell}
use Rattle.report_page.specs.within.BrokenGames.{is_of, may_name}

neither : (a b c d : Bool) → (a || b) ≡ false → ((a && c) || (b && d)) ≡ false
neither true b c d none = absurd (false≢true (sym none))
neither false true c d none = absurd (false≢true (sym none))
neither false false c d none = refl

elsewhere : (place : Place) (team opponent round : ℕ) → is_of place team ≡ false → is_at place team opponent round ≡ false
elsewhere (GamesOf of) team opponent round other = other
elsewhere (BreaksOf of) team opponent round other = other
elsewhere (Window of first last) team opponent round other = rw other refl
elsewhere (Round in_round) team opponent round other = absurd (false≢true (sym other))
elsewhere Together team opponent round other = absurd (false≢true (sym other))
elsewhere GamesOver team opponent round other = absurd (false≢true (sym other))
elsewhere GamesUnder team opponent round other = absurd (false≢true (sym other))
elsewhere (Pair low high) team opponent round other =
    neither (team == low) (team == high) (opponent == high) (opponent == low) other
elsewhere (PairIn low high in_round) team opponent round other = refl

-- a breach elsewhere names no game of the team
pub unnamed : (g : Games) (body : RuleBody) (place : Place) (team round : ℕ) → may_name body place team ≡ false →
    names_cell g body place team round ≡ false
unfolding names_cell
unnamed g (Ca1 teams side slots most) place team round other = rw (elsewhere place team (cell g team round).opponent round other) refl
unnamed g (Ca2 teams1 side teams2 slots most) place team round other = rw (elsewhere place team (cell g team round).opponent round other) refl
unnamed g (Ca3 teams1 side teams2 window most) place team round other = rw (elsewhere place team (cell g team round).opponent round other) refl
unnamed g (Ca4 teams1 side teams2 slots each most) place team round other = rw (elsewhere place team (cell g team round).opponent round other) refl
unnamed g (Ga1 games slots least most) place team round other = absurd (false≢true (sym other))
unnamed g (Br1 teams side slots most) place team round other = rw (elsewhere place team (cell g team round).opponent round other) refl
unnamed g (Br2 teams slots most) place team round other = absurd (false≢true (sym other))
unnamed g (Se1 teams least) place team round other = elsewhere place team (cell g team round).opponent round other
unnamed g (Fa2 teams slots most) place team round other = refl

-- the games of one team more
pub one_team_more : (old : Bool) (marked : ℕ → Bool) (k t : ℕ) →
    ((t == k && marked k) || (old || (nat_lt t k && marked t))) ≡ (old || (nat_lt t (k + 1) && marked t))
one_team_more old marked k t = elim (cases_eq t k) [
  | inl same ↦ rw same (here old (marked k) k)
  | inr other ↦ rw (ne_eqb t k other) (there old (marked t) k t (ne_eqb t k other))
]
  where
    here : (old marked : Bool) (k : ℕ) → ((k == k && marked) || (old || (nat_lt k k && marked))) ≡ (old || (nat_lt k (k + 1) && marked))
    here old marked k = grind (arith, nat_tests)

    there : (old marked : Bool) (k t : ℕ) → (t == k) ≡ false → (old || (nat_lt t k && marked)) ≡ (old || (nat_lt t (k + 1) && marked))
    there old marked k t other = grind (arith, nat_tests)

-- those of one rule more
pub one_rule_more : (g : Games) (team round : ℕ) (rules : List Rule) (i : ℕ) (rule : Rule) → slice_get rules i ≡ Some rule →
    (list_any (λ (rule : Rule). is_marked g rule.body team round) (take i rules) || is_marked g rule.body team round) ≡
    list_any (λ (rule : Rule). is_marked g rule.body team round) (take (i + 1) rules)
one_rule_more g team round rules i rule is =
    sym (list_any_more (λ (rule : Rule). is_marked g rule.body team round) rules i rule (slice_get_within rules i rule is) ∙
    ap (λ (next : Rule). list_any (λ (rule : Rule). is_marked g rule.body team round) (take i rules) || is_marked g next.body team round)
    (get_or_from_slice_get rules i rule rule is))
