-- Of a rule that isn't touched, or that looks past the main teams, a change can alter nothing.
use Rattle.std.proofs.Common.{◌≡◌, ℕ, ◌<◌, ◌^◌, ◌&&◌, ◌||◌, ◌==◌, not, Bool, true, false, if◌then◌else◌, List, [], ◌∷◌, inl, inr, refl, sym}
use Rattle.std.proofs.Common.{◌∙◌, ap, arith}
use Rattle.std.specs.List.{AllByRecursion, list_any}
use Rattle.std.proofs.lemmas.Bool.{cases_lt, cond-false, false≢true, false_from_ne_true, and_cases, and_parts, and_left, and_right, or_from}
use Rattle.std.proofs.lemmas.Bool.{or_parts, not-true}
use Rattle.league.specs.Limits.{max_teams}
use Rattle.league.specs.Sets.{has, all_numbers}
use Rattle.league.specs.Games.{IsGameFor}
use Rattle.league.specs.RuleLimits.{IsBodyFor}
use Rattle.league.specs.declared.rule.Pairing.{Pairing}
use Rattle.league.specs.declared.rule.RuleBody.{RuleBody}
use Rattle.league.specs.declared.rule.RuleBody.TheVariants.{Ca1, Ca2, Ca3, Ca4, Ga1, Br1, Br2, Se1, Fa2}
use Rattle.league.proofs.ForCallers.{sum_where_none, sum_below_zero, any_below_fails, any_below_from_none, has_beyond}
use Rattle.fixtures.specs.declared.game.Cell.{Cell}
use Rattle.fixtures.specs.Games.{Games, round_count, round_of, cell, IsPair, IsDoubleRoundRobin}
use Rattle.fixtures.proofs.ForCallers.{cell_home}
use Rattle.rules.specs.LooksPast.{takes_all_or_none, looks_past}
use Rattle.rules.specs.Touches.{has_touched_team, has_touched_game, looks_at_team, looks_at_round, touches}
use Rattle.rules.specs.Parts.{is_guest, meets_otherwise, counts_otherwise, has_moved_game, is_pair_with, worst_gaps_with}
use Rattle.rules.specs.Parts.{changing_terms, tells_apart, can_alter, deviation_part}
use Rattle.rules.proofs.unaltered.LookedPast.{AreApart-tested, others-tested}

module _ (g : Games) (rr : IsDoubleRoundRobin g) (main rounds sides : ℕ) where
  -- none of a rule's teams passes
  abbrev NonePasses : ℕ → (ℕ → Bool) → Type 0
  NonePasses teams test = (t : ℕ) → t < g.teams → has teams t ≡ true → test t ≡ false

  -- none of what a rule looks at can change
  abbrev IsQuiet : RuleBody → Type 0
  IsQuiet (Ca1 teams side slots most) = NonePasses teams (has sides)
  IsQuiet (Ca2 teams1 side teams2 slots most) = NonePasses teams1 (counts_otherwise g main rounds sides teams2)
  IsQuiet (Ca3 teams1 side teams2 window most) = NonePasses teams1 (counts_otherwise g main rounds sides teams2)
  IsQuiet (Ca4 teams1 side teams2 slots each most) = NonePasses teams1 (counts_otherwise g main rounds sides teams2)
  IsQuiet (Ga1 games slots least most) = has_moved_game g (has main) (has rounds) games ≡ false
  IsQuiet (Br1 teams side slots most) = NonePasses teams (has sides)
  IsQuiet (Br2 teams slots most) = NonePasses teams (has sides)
  IsQuiet (Se1 teams least) = NonePasses teams (has main)
  IsQuiet (Fa2 teams slots most) = NonePasses teams (has sides)

  not_both : (p q : Bool) → (p ≡ true → q ≡ false) → (p && q) ≡ false
  not_both true q fails = fails refl
  not_both false q fails = refl

  none_of_all : (teams : ℕ) (test : ℕ → Bool) → teams < 2 ^ g.teams → NonePasses teams test → has_touched_team teams test ≡ false
  unfolding has_touched_team
  none_of_all teams test below none =
      any_below_from_none max_teams (λ t. has teams t && test t)
      (λ t in_t. not_both (has teams t) (test t) (λ is. elim (cases_lt t g.teams) [
        | inl lt ↦ none t lt is
        | inr past ↦ absurd (false≢true (sym (has_beyond g.teams teams t below past) ∙ is))
      ]))

  no_pair : (teams set i j : ℕ) → i < g.teams → j < g.teams → NonePasses teams (has set) → is_pair_with teams set i j ≡ false
  no_pair teams set i j in_i in_j none =
      not_both (has teams i && has teams j) (has set i || has set j)
      (λ both. let parts = and_parts (has teams i) (has teams j) both in or_from (has set i) (has set j) (none i in_i parts.0)
      (none j in_j parts.1))

  none_changes : (body : RuleBody) → IsBodyFor g.teams body → IsQuiet body → changing_terms g main rounds sides body ≡ 0
  unfolding changing_terms worst_gaps_with
  none_changes (Ca1 teams side slots most) is quiet =
      sum_where_none g.teams (λ t. has teams t && has sides t) _ (λ t in_t. not_both _ _ (quiet t in_t))
  none_changes (Ca2 teams1 side teams2 slots most) is quiet =
      sum_where_none g.teams (λ t. has teams1 t && counts_otherwise g main rounds sides teams2 t) _ (λ t in_t. not_both _ _ (quiet t in_t))
  none_changes (Ca3 teams1 side teams2 window most) is quiet =
      sum_where_none g.teams (λ t. has teams1 t && counts_otherwise g main rounds sides teams2 t) _ (λ t in_t. not_both _ _ (quiet t in_t))
  none_changes (Ca4 teams1 side teams2 slots false most) is quiet =
      cond-false {A = ℕ} _ _ 0 (none_of_all teams1 (counts_otherwise g main rounds sides teams2) is.0 quiet)
  none_changes (Ca4 teams1 side teams2 slots true most) is quiet =
      cond-false {A = ℕ} _ _ 0 (none_of_all teams1 (counts_otherwise g main rounds sides teams2) is.0 quiet)
  none_changes (Ga1 games slots least most) is quiet = cond-false {A = ℕ} _ _ 0 quiet
  none_changes (Br1 teams side slots most) is quiet =
      sum_where_none g.teams (λ t. has teams t && has sides t) _ (λ t in_t. not_both _ _ (quiet t in_t))
  none_changes (Br2 teams slots most) is quiet = cond-false {A = ℕ} _ _ 0 (none_of_all teams (has sides) is.0 quiet)
  none_changes (Se1 teams least) is quiet =
      sum_below_zero g.teams _ (λ j in_j. sum_below_zero j _ (λ i lower. cond-false {A = ℕ} _ _ 0
      (and_left _ _ (no_pair teams main i j (omega arith) in_j quiet))))
  none_changes (Fa2 teams slots most) is quiet =
      sum_below_zero g.teams _ (λ j in_j. sum_below_zero j _ (λ i lower. cond-false {A = ℕ} _ _ 0
      (no_pair teams sides i j (omega arith) in_j quiet)))

  no_part : (body : RuleBody) → IsBodyFor g.teams body → IsQuiet body → deviation_part g main rounds sides body ≡ 0
  unfolding deviation_part
  no_part body is quiet = at (can_alter body (has rounds)) _ (none_changes body is quiet)
    where
      at : (b : Bool) (x : ℕ) → x ≡ 0 → ◌≡◌ {A = ℕ} (if b then x else 0) 0
      at true x none = none
      at false x none = refl

  neither_counts : (opponents t : ℕ) → has sides t ≡ false → meets_otherwise g main rounds opponents t ≡ false →
      counts_otherwise g main rounds sides opponents t ≡ false
  unfolding counts_otherwise
  neither_counts opponents t stays meets = at (opponents == all_numbers g.teams)
    where
      at : (b : Bool) → (if b then has sides t else meets_otherwise g main rounds opponents t) ≡ false
      at true = stays
      at false = meets

  -- the side teams are among the main teams
  module _ (sides_in : (t : ℕ) → has sides t ≡ true → has main t ≡ true) where
    not_side : (t : ℕ) → has main t ≡ false → has sides t ≡ false
    not_side t out = false_from_ne_true (has sides t) (λ is. absurd (false≢true (sym out ∙ sides_in t is)))

    -- looked past

    apart : (teams : ℕ) → not (has_touched_team teams (has main)) ≡ true → NonePasses teams (has main)
    apart teams tested t in_t is = AreApart-tested teams main tested t (omega (arith, rr.most)) is

    apart_and_all : (teams opponents : ℕ) → (not (has_touched_team teams (has main)) && takes_all_or_none main opponents) ≡ true →
        NonePasses teams (counts_otherwise g main rounds sides opponents)
    unfolding meets_otherwise
    apart_and_all teams opponents tested t in_t is =
        let both = and_parts (not (has_touched_team teams (has main))) (takes_all_or_none main opponents) tested in
        let out = apart teams both.0 t in_t is in
        neither_counts opponents t (not_side t out)
        (or_from (has main t) _ out (ap (λ b. not b && is_guest g (has main) (has rounds) t) both.1))

    no_moved_game : (games : List Pairing) →
        AllByRecursion (λ (game : Pairing). (has main game.home ≡ false) × (has main game.away ≡ false)) games →
        has_moved_game g (has main) (has rounds) games ≡ false
    unfolding has_moved_game
    no_moved_game [] all = refl
    no_moved_game (game ∷ games) all = or_from _ _ (and_left _ _ (or_from _ _ all.0.0 all.0.1)) (no_moved_game games all.1)

    quiet_past : (body : RuleBody) → looks_past main body ≡ true → IsQuiet body
    unfolding looks_past
    quiet_past (Ca1 teams side slots most) past = λ t in_t is. not_side t (apart teams past t in_t is)
    quiet_past (Ca2 teams1 side teams2 slots most) past = apart_and_all teams1 teams2 past
    quiet_past (Ca3 teams1 side teams2 window most) past = apart_and_all teams1 teams2 past
    quiet_past (Ca4 teams1 side teams2 slots each most) past = apart_and_all teams1 teams2 past
    quiet_past (Ga1 games slots least most) past = no_moved_game games (others-tested main games (not-true _ past))
    quiet_past (Br1 teams side slots most) past = λ t in_t is. not_side t (apart teams past t in_t is)
    quiet_past (Br2 teams slots most) past = λ t in_t is. not_side t (apart teams past t in_t is)
    quiet_past (Se1 teams least) past = apart teams past
    quiet_past (Fa2 teams slots most) past = λ t in_t is. not_side t (apart teams past t in_t is)

    -- untouched, where the main teams and their guests are touched

    module _ (touched : ℕ → Bool) (all : (t : ℕ) → t < g.teams → (has main t || is_guest g (has main) (has rounds) t) ≡ true →
        touched t ≡ true) where
      neither : (t : ℕ) → t < g.teams → touched t ≡ false → (has main t ≡ false) × (is_guest g (has main) (has rounds) t ≡ false)
      neither t in_t out =
          or_parts (has main t) (is_guest g (has main) (has rounds) t)
          (false_from_ne_true _ (λ is. absurd (false≢true (sym out ∙ all t in_t is))))

      untouched : (teams : ℕ) → has_touched_team teams touched ≡ false → NonePasses teams touched
      unfolding has_touched_team
      untouched teams none t in_t is =
          elim (and_cases (has teams t) (touched t) (any_below_fails max_teams (λ t. has teams t && touched t) none t (omega (arith, rr.most)))) [
            | inl out ↦ absurd (false≢true (sym out ∙ is))
            | inr out ↦ out
          ]

      uncounted : (teams opponents : ℕ) → has_touched_team teams touched ≡ false →
          NonePasses teams (counts_otherwise g main rounds sides opponents)
      unfolding meets_otherwise
      uncounted teams opponents none t in_t is =
          let out = neither t in_t (untouched teams none t in_t is) in
          neither_counts opponents t (not_side t out.0) (or_from (has main t) _ out.0 (and_right _ _ out.1))

      unmoved : (games : List Pairing) → AllByRecursion (IsGameFor g.teams) games → has_touched_game games touched ≡ false →
          has_moved_game g (has main) (has rounds) games ≡ false
      unfolding has_touched_game has_moved_game is_guest
      unmoved [] are none = refl
      unmoved (game ∷ games) are none =
          let parts = or_parts (touched game.home) (list_any (λ (game : Pairing). touched game.home) games) none in
          or_from _ _ (here game are.0 (neither game.home are.0.home parts.0)) (unmoved games are.1 parts.1)
        where
          here : (game : Pairing) → IsGameFor g.teams game →
              (has main game.home ≡ false) × (is_guest g (has main) (has rounds) game.home ≡ false) →
              ((has main game.home || has main game.away) && has rounds (round_of g game.home game.away)) ≡ false
          here game is out =
              let pair : IsPair g.teams game.home game.away = record { home_in = is.home; away_in = is.away; distinct = is.distinct } in
              let r = round_of g game.home game.away in
              let met : has main (cell g game.home r).opponent ≡ has main game.away =
              ap (λ (c : Cell). has main c.opponent) (cell_home g rr game.home game.away pair) in
              let fails : (has rounds r && has main (cell g game.home r).opponent) ≡ false =
              any_below_fails (round_count g.teams) (λ r. has rounds r && has main (cell g game.home r).opponent) out.1 r
              (rr.in_range game.home game.away pair) in
              regrouped (has main game.home) (has main game.away) (has rounds r) out.0 (sym (ap (λ b. has rounds r && b) met) ∙ fails)
            where
              regrouped : (h a r : Bool) → h ≡ false → (r && a) ≡ false → ((h || a) && r) ≡ false
              regrouped true a r out fails = absurd (false≢true (sym out))
              regrouped false true true out fails = fails
              regrouped false true false out fails = refl
              regrouped false false r out fails = refl

      quiet_untouched : (body : RuleBody) → IsBodyFor g.teams body → looks_at_team body touched ≡ false → IsQuiet body
      unfolding looks_at_team
      quiet_untouched (Ca1 teams side slots most) is none = λ t in_t own. not_side t (neither t in_t (untouched teams none t in_t own)).0
      quiet_untouched (Ca2 teams1 side teams2 slots most) is none = uncounted teams1 teams2 none
      quiet_untouched (Ca3 teams1 side teams2 window most) is none = uncounted teams1 teams2 none
      quiet_untouched (Ca4 teams1 side teams2 slots each most) is none = uncounted teams1 teams2 none
      quiet_untouched (Ga1 games slots least most) is none = unmoved games is.0 none
      quiet_untouched (Br1 teams side slots most) is none = λ t in_t own. not_side t (neither t in_t (untouched teams none t in_t own)).0
      quiet_untouched (Br2 teams slots most) is none = λ t in_t own. not_side t (neither t in_t (untouched teams none t in_t own)).0
      quiet_untouched (Se1 teams least) is none = λ t in_t own. (neither t in_t (untouched teams none t in_t own)).0
      quiet_untouched (Fa2 teams slots most) is none = λ t in_t own. not_side t (neither t in_t (untouched teams none t in_t own)).0

pub looked_past_part : (g : Games) (main rounds sides : ℕ) (body : RuleBody) → IsDoubleRoundRobin g → IsBodyFor g.teams body →
    ((t : ℕ) → has sides t ≡ true → has main t ≡ true) → looks_past main body ≡ true → deviation_part g main rounds sides body ≡ 0
looked_past_part g main rounds sides body rr is sides_in past =
    no_part g rr main rounds sides body is (quiet_past g rr main rounds sides sides_in body past)

pub untouched_part : (g : Games) (main rounds sides : ℕ) (touched : ℕ → Bool) (body : RuleBody) → IsDoubleRoundRobin g →
    IsBodyFor g.teams body →
    ((t : ℕ) → has sides t ≡ true → has main t ≡ true) →
    ((t : ℕ) → t < g.teams → (has main t || is_guest g (has main) (has rounds) t) ≡ true → touched t ≡ true) →
    touches body touched (has rounds) ≡ false → deviation_part g main rounds sides body ≡ 0
unfolding touches deviation_part can_alter
untouched_part g main rounds sides touched body rr is sides_in all none =
    elim (and_cases (looks_at_team body touched) (looks_at_round body (has rounds)) none) [
      | inl team ↦ no_part g rr main rounds sides body is (quiet_untouched g rr main rounds sides sides_in touched all body is team)
      | inr round ↦
          cond-false {A = ℕ} (can_alter body (has rounds)) (changing_terms g main rounds sides body) 0
          (and_left (looks_at_round body (has rounds)) (tells_apart body (has rounds)) round)
    ]
