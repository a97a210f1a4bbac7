-- Leagues that are equal in all that they say.
use Rattle.std.proofs.Common.{◌≡◌, ℕ, ◌&&◌, Bool, true, false, List, [], ◌∷◌, length, String, string_bytes, Global, nat_eq}
use Rattle.std.proofs.Common.{refl, sym, ap, ◌∙◌, subst, true≢false}
use Rattle.std.proofs.lemmas.Bool.{eqb-true}
use Rattle.std.proofs.lemmas.Bool.Decides.{Decides-and, Decides-at, Decides-like}
use Rattle.std.specs.Bool.{Decides}
use Rattle.std.specs.Cmp.{IsEquivalence, booleans_Decides, unsigned_Decides}
use Rattle.std.specs.Cmp.Lexicographic.{bytes_decides, pointwise, pointwise_decides}
use Rattle.league.specs.contracts.leagues.TermsPartialEq.TheImpl as terms_eq
use Rattle.league.specs.contracts.rule.RulePartialEq.TheImpl as rule_eq
use Rattle.league.specs.contracts.rule.RuleEq.TheImpl.Laws as rule_laws
use Rattle.league.specs.contracts.rule.RuleBodyPartialEq.TheImpl as body_eq
use Rattle.league.specs.contracts.rule.SidePartialEq.TheImpl as side_eq
use Rattle.league.specs.contracts.rule.WeightPartialEq.TheImpl as weight_eq
use Rattle.league.specs.declared.leagues.Terms.{Terms}
use Rattle.league.specs.declared.rule.Pairing.{Pairing}
use Rattle.league.specs.declared.rule.Rule.{Rule}
use Rattle.league.specs.declared.rule.RuleBody.{RuleBody}
use Rattle.league.specs.declared.rule.RuleBody.TheVariants.{Ca1, Ca2, Ca3, Ca4, Ga1, Br1, Br2, Se1, Fa2}
use Rattle.league.specs.declared.rule.Side.{Side}
use Rattle.league.specs.declared.rule.Side.TheVariants.{Home, Away, Any}
use Rattle.league.specs.declared.rule.Weight.{Weight}
use Rattle.league.specs.declared.rule.Weight.TheVariants.{Hard, Soft}
use Rattle.league.specs.Checks.{IsDistanceTable}
use Rattle.league.specs.Games.{is_same_game, is_same_game_equiv}
use Rattle.league.specs.League.{LeagueData, league_data}
use Rattle.league.specs.Labels.{no_labels}
use Rattle.league.specs.within.League.{bare}
use Rattle.league.specs.declared.origins.Start.TheVariants.{Berger}
use Rattle.league.specs.Origins.{OriginData, origin_at}
use Rattle.league.specs.Rows.{table_of}
use Rattle.league.specs.within.Rows.{joined}
use Rattle.league.specs.Views.{texts}
use Rattle.league.proofs.Rows.{table_of-joined}

-- the tests of two parts, both of which hold
both : {P Q : Type 0} (s t : Bool) → (s ≡ true → P) → (t ≡ true → Q) → (s && t) ≡ true → P × Q
both true t p q h = (p refl, q h)
both false t p q h = absurd (true≢false (sym h))

-- an equivalence that only equals pass decides equality
decides_equal : {A : Type 0} (E : A → A → Bool) → IsEquivalence E → ((a b : A) → E a b ≡ true → a ≡ b) → (a b : A)
    → Decides (E a b) (a ≡ b)
decides_equal E laws equal a b = (equal a b, λ e. subst (λ c. E a c ≡ true) e (laws.refl a))

same_game : (p q : Pairing) → is_same_game p q ≡ true → p ≡ q
same_game p q h =
    let e = both _ _ (eqb-true p.home q.home) (eqb-true p.away q.away) h in
    λ i. record { home = e.0 i; away = e.1 i }

same_side : (s t : Side) → side_eq.eq-value.it s t ≡ true → s ≡ t
same_side Home Home h = refl
same_side Away Away h = refl
same_side Any Any h = refl
same_side s t h = absurd (true≢false (sym h))

same_weight : (v w : Weight) → weight_eq.eq-value.it v w ≡ true → v ≡ w
same_weight Hard Hard h = refl
same_weight (Soft x) (Soft y) h = ap Soft (eqb-true x y h)
same_weight v w h = absurd (true≢false (sym h))

same_games : (games others : List Pairing) → pointwise is_same_game games others ≡ true → games ≡ others
same_games games others = (pointwise_decides (decides_equal is_same_game is_same_game_equiv same_game) games others).0

same_body : (body other : RuleBody) → body_eq.eq-value.it body other ≡ true → body ≡ other
same_body (Ca1 a b c d) (Ca1 a' b' c' d') h =
    let e = both _ _ (eqb-true a a') (both _ _ (same_side b b') (both _ _ (eqb-true c c') (eqb-true d d'))) h in
    λ i. Ca1 (e.0 i) (e.1.0 i) (e.1.1.0 i) (e.1.1.1 i)
same_body (Ca2 a b c d f) (Ca2 a' b' c' d' f') h =
    let e = both _ _ (eqb-true a a') (both _ _ (same_side b b') (both _ _ (eqb-true c c') (both _ _ (eqb-true d d') (eqb-true f f')))) h in
    λ i. Ca2 (e.0 i) (e.1.0 i) (e.1.1.0 i) (e.1.1.1.0 i) (e.1.1.1.1 i)
same_body (Ca3 a b c d f) (Ca3 a' b' c' d' f') h =
    let e = both _ _ (eqb-true a a') (both _ _ (same_side b b') (both _ _ (eqb-true c c') (both _ _ (eqb-true d d') (eqb-true f f')))) h in
    λ i. Ca3 (e.0 i) (e.1.0 i) (e.1.1.0 i) (e.1.1.1.0 i) (e.1.1.1.1 i)
same_body (Ca4 a b c d f g) (Ca4 a' b' c' d' f' g') h =
    let e = both _ _ (eqb-true a a') (both _ _ (same_side b b') (both _ _ (eqb-true c c')
    (both _ _ (eqb-true d d') (both _ _ (booleans_Decides f f').0 (eqb-true g g'))))) h in
    λ i. Ca4 (e.0 i) (e.1.0 i) (e.1.1.0 i) (e.1.1.1.0 i) (e.1.1.1.1.0 i) (e.1.1.1.1.1 i)
same_body (Ga1 a b c d) (Ga1 a' b' c' d') h =
    let e = both _ _ (same_games a a') (both _ _ (eqb-true b b') (both _ _ (eqb-true c c') (eqb-true d d'))) h in
    λ i. Ga1 (e.0 i) (e.1.0 i) (e.1.1.0 i) (e.1.1.1 i)
same_body (Br1 a b c d) (Br1 a' b' c' d') h =
    let e = both _ _ (eqb-true a a') (both _ _ (same_side b b') (both _ _ (eqb-true c c') (eqb-true d d'))) h in
    λ i. Br1 (e.0 i) (e.1.0 i) (e.1.1.0 i) (e.1.1.1 i)
same_body (Br2 a b c) (Br2 a' b' c') h =
    let e = both _ _ (eqb-true a a') (both _ _ (eqb-true b b') (eqb-true c c')) h in
    λ i. Br2 (e.0 i) (e.1.0 i) (e.1.1 i)
same_body (Se1 a b) (Se1 a' b') h =
    let e = both _ _ (eqb-true a a') (eqb-true b b') h in
    λ i. Se1 (e.0 i) (e.1 i)
same_body (Fa2 a b c) (Fa2 a' b' c') h =
    let e = both _ _ (eqb-true a a') (both _ _ (eqb-true b b') (eqb-true c c')) h in
    λ i. Fa2 (e.0 i) (e.1.0 i) (e.1.1 i)
same_body body other h = absurd (true≢false (sym h))

same_rule : (rule other : Rule) → rule_eq.eq-value.it rule other ≡ true → rule ≡ other
same_rule rule other h =
    let e = both _ _ (same_weight rule.weight other.weight) (same_body rule.body other.body) h in
    λ i. record { weight = e.0 i; body = e.1 i }

rules_decide : (rules others : List Rule) → Decides (pointwise rule_eq.eq-value.it rules others) (rules ≡ others)
rules_decide = pointwise_decides (decides_equal rule_eq.eq-value.it rule_laws.laws-law same_rule)

-- texts are compared as their bytes
abbrev pub are_same_texts : List (String Global) → List (String Global) → Bool
are_same_texts = pointwise (λ x y. pointwise nat_eq (string_bytes x) (string_bytes y))

texts_compared : (names others : List (String Global))
    → are_same_texts names others
    ≡ pointwise (pointwise nat_eq) (texts names) (texts others)
texts_compared [] [] = refl
texts_compared [] (y ∷ ys) = refl
texts_compared (x ∷ xs) [] = refl
texts_compared (x ∷ xs) (y ∷ ys) = ap (λ b. pointwise nat_eq (string_bytes x) (string_bytes y) && b) (texts_compared xs ys)

pub texts_decide : (names others : List (String Global))
    → Decides (are_same_texts names others) (texts names ≡ texts others)
texts_decide names others =
    Decides-at _ _ (texts_compared names others) (pointwise_decides bytes_decides (texts names) (texts others))

abbrev SameTerms : Terms → Terms → Type 0
SameTerms t u =
    (t.at_most ≡ u.at_most) × ((t.hard_weight ≡ u.hard_weight) × ((t.phased ≡ u.phased) × (t.free_repeats ≡ u.free_repeats)))

terms_decide : (t u : Terms) → Decides (terms_eq.eq-value.it t u) (SameTerms t u)
terms_decide t u =
    Decides-and _ _ (unsigned_Decides t.at_most u.at_most) (Decides-and _ _ (unsigned_Decides t.hard_weight u.hard_weight)
    (Decides-and _ _ (booleans_Decides t.phased u.phased) (booleans_Decides t.free_repeats u.free_repeats)))

-- tables of one size are equal where their numbers are
same_tables : (n m : ℕ) (d e : List (List ℕ)) → IsDistanceTable n d → IsDistanceTable m e → n ≡ m → joined d ≡ joined e → d ≡ e
same_tables n m d e d_is e_is same numbers =
    sym (table_of-joined n d d_is.rows d_is.columns) ∙ (λ i. table_of (same i) (numbers i)) ∙ table_of-joined m e e_is.rows e_is.columns

-- the origin that stands for any
abbrev pub berger : OriginData
berger = origin_at Berger

-- the tests of the parts, one after another, decide whether the leagues are equal in all but their origins
leagues_decide : (names others : List (String Global)) (d e : List (List ℕ)) (t u : Terms) (rules more : List Rule)
    → IsDistanceTable (length (texts names)) d → IsDistanceTable (length (texts others)) e
    → Decides (((terms_eq.eq-value.it t u && are_same_texts names others) && pointwise nat_eq (joined d) (joined e))
    && pointwise rule_eq.eq-value.it rules more)
    (league_data (texts names) d t.at_most t.hard_weight rules berger t.phased t.free_repeats no_labels
    ≡ league_data (texts others) e u.at_most u.hard_weight more berger u.phased u.free_repeats no_labels)
leagues_decide names others d e t u rules more d_is e_is =
    Decides-like _
    (λ h. let k = h.0.0.0 in λ i. league_data (h.0.0.1 i)
    (same_tables _ _ d e d_is e_is (ap length h.0.0.1) h.0.1 i) (k.0 i) (k.1.0 i) (h.1 i) berger (k.1.1.0 i) (k.1.1.1 i) no_labels)
    (λ same. (
      (
        (
          (
            ap (λ (l : LeagueData). l.at_most) same,
            (
              ap (λ (l : LeagueData). l.hard_weight) same,
              (ap (λ (l : LeagueData). l.phased) same, ap (λ (l : LeagueData). l.free_repeats) same),
            ),
          ),
          ap (λ (l : LeagueData). l.names) same,
        ),
        ap (λ (l : LeagueData). joined l.distances) same,
      ),
      ap (λ (l : LeagueData). l.rules) same,
    ))
    (Decides-and _ _
    (Decides-and _ _ (Decides-and _ _ (terms_decide t u) (texts_decide names others)) (bytes_decides (joined d) (joined e)))
    (rules_decide rules more))

-- the same, from what each test of a chain gave
pub chain_decides : (l m : LeagueData) (names others : List (String Global)) (d e : List (List ℕ)) (t u : Terms) (rules more : List Rule)
    → IsDistanceTable (length (texts names)) d → IsDistanceTable (length (texts others)) e
    → league_data (texts names) d t.at_most t.hard_weight rules berger t.phased t.free_repeats no_labels ≡ l
    → league_data (texts others) e u.at_most u.hard_weight more berger u.phased u.free_repeats no_labels ≡ m
    → (first second third all : Bool) → first ≡ terms_eq.eq-value.it t u
    → second ≡ (first && are_same_texts names others)
    → third ≡ (second && pointwise nat_eq (joined l.distances) (joined m.distances))
    → all ≡ (third && pointwise rule_eq.eq-value.it rules more) → Decides all (l ≡ m)
chain_decides l m names others d e t u rules more d_is e_is l_is m_is first second third all first_is second_is third_is all_is =
    let named : second ≡ (terms_eq.eq-value.it t u && are_same_texts names others) =
    second_is ∙ ap (λ b. b && are_same_texts names others) first_is in
    let numbered : third ≡ ((terms_eq.eq-value.it t u && are_same_texts names others) && pointwise nat_eq (joined d) (joined e)) =
    third_is ∙ (λ i. named i && pointwise nat_eq (joined (sym l_is i).distances) (joined (sym m_is i).distances)) in
    let chained = all_is ∙ ap (λ b. b && pointwise rule_eq.eq-value.it rules more) numbered in
    rw (← l_is, ← m_is) (Decides-at _ _ chained (leagues_decide names others d e t u rules more d_is e_is))

-- what one test after another gives
pub then_and : (s t v : Bool) → s ≡ true → v ≡ t → v ≡ (s && t)
then_and s t v on is = is ∙ ap (λ b. b && t) (sym on)

pub else_and : (s t v : Bool) → s ≡ false → v ≡ s → v ≡ (s && t)
else_and s t v off is = is ∙ off ∙ ap (λ b. b && t) (sym off)

-- leagues are equal that are so in all but their origins and labels, and in these
pub same_in_all : (l m : LeagueData) → bare l ≡ bare m → l.origin ≡ m.origin → l.labels ≡ m.labels → l ≡ m
same_in_all l m rest origins labels = λ i. record (rest i) { origin = origins i; labels = labels i }
