-- What a change around some teams adds to the part of a deviation, it adds to the whole.
use Rattle.std.proofs.Common.{◌≡◌, ℕ, ◌+◌, ◌-◌, ◌<◌, ◌≤◌, ◌&&◌, ◌||◌, ◌⊎◌, ◌==◌, not, Bool, true, false, List, [], ◌∷◌, inl, inr, refl, sym}
use Rattle.std.proofs.Common.{◌∙◌, if◌then◌else◌, ap, subst, arith}
use Rattle.std.specs.List.{AllByRecursion, list_any}
use Rattle.std.proofs.lemmas.Bool.{cases_Bool, cases_eq, cases_lt, cond-true, cond-false, eq-eqb, ne_eqb, lt-ltb, false≢true}
use Rattle.std.proofs.lemmas.Bool.{and_cases, or_parts, not_from_false, not-false, not-true}
use Rattle.league.specs.Limits.{max_teams}
use Rattle.league.specs.Sets.{has, all_numbers, IsBelow}
use Rattle.league.specs.Sums.{any_below, sum_of_pairs}
use Rattle.league.specs.Games.{IsGameFor}
use Rattle.league.specs.RuleLimits.{IsBodyFor}
use Rattle.league.specs.declared.rule.Pairing.{Pairing}
use Rattle.league.specs.declared.rule.RuleBody.{RuleBody}
use Rattle.league.specs.declared.rule.RuleBody.TheVariants.{Ca1, Ca2, Ca3, Ca4, Ga1, Br1, Br2, Se1, Fa2}
use Rattle.league.specs.declared.rule.Side.{Side}
use Rattle.league.specs.declared.rule.Side.TheVariants.{Any}
use Rattle.league.proofs.ForCallers.{any_below_fails, any_below_same, count_where_same, has_beyond, has_all_numbers, sum_of_pairs_balance}
use Rattle.fixtures.specs.declared.game.Cell.{Cell}
use Rattle.fixtures.specs.Games.{Games, round_count, round_of, cell, is_home, IsDoubleRoundRobin}
use Rattle.fixtures.specs.Changes.{DiffersOnlyIn, DiffersOnlyAt, DiffersOnlyAround, box}
use Rattle.fixtures.proofs.ForCallers.{is_cell, round_of_kept_around}
use Rattle.rules.specs.Deviations.{over, is_on_side, is_counted, games_of_team, games_in_window, games_in_round, breaks, rounds_between}
use Rattle.rules.specs.Deviations.{over_in_windows, short_pairs, worst_gap, worst_gaps, deviation}
use Rattle.rules.specs.LooksPast.{takes_all_or_none}
use Rattle.rules.specs.Touches.{has_touched_team}
use Rattle.rules.specs.Parts.{is_guest, meets_otherwise, counts_otherwise, has_moved_game, meets_window, over_in_met_windows}
use Rattle.rules.specs.Parts.{is_pair_with, worst_gaps_with, changing_terms, can_alter, deviation_part}
use Rattle.rules.proofs.unaltered.LookedPast.{TakesAllOrNone-tested}
use Rattle.rules.proofs.rows.MetPairs.{short_pairs_balance}
use Rattle.rules.proofs.balances.PartSums.{where_balance, whole_terms_balance, whole_balance, part_balance}
use Rattle.rules.proofs.unaltered.SeesSame.{SeesSame, SeesSameBreaks, SeesSameUntil, games_of_team-same, games_in_round-same}
use Rattle.rules.proofs.unaltered.SeesSame.{over_in_windows-same, breaks-same, worst_gap-same, together-same, each-same}
use Rattle.rules.proofs.unaltered.SeesSame.{breaks_of_all-same, listed_games_in-same}
use Rattle.rules.proofs.unaltered.Untouched.{other_fails, game_stays}
use Rattle.rules.proofs.unaltered.ToldApart.{SeesSame-outside, stays_inside, unaltered_deviation}

module _ (g g' : Games) (size : g'.teams ≡ g.teams) (sides rounds : ℕ)
    (flipped : DiffersOnlyAt is_home g g' (box (has sides) (has rounds))) where
  -- a team that isn't a side team keeps its sides
  home_kept : (t r : ℕ) → t < g.teams → r < round_count g.teams → has sides t ≡ false → (cell g' t r).home ≡ (cell g t r).home
  unfolding is_home
  home_kept t r in_t in_r other = flipped.same t r in_t in_r (ap (λ (b : Bool). b && has rounds r) other)

  SeesSame-unflipped : (slots : ℕ → Bool) → SeesSame g g' (λ t. not (has sides t)) slots (λ _. true)
  SeesSame-unflipped slots = record {
    same_size = size;
    side = λ t r in_t in_r team slot. home_kept t r in_t in_r (not-true _ team);
    opponent = λ t r in_t in_r team slot. refl;
  }

  SeesSameBreaks-unflipped : (teams slots : ℕ → Bool) → ((t : ℕ) → t < g.teams → teams t ≡ true → has sides t ≡ false) →
      SeesSameBreaks g g' teams slots
  SeesSameBreaks-unflipped teams slots others = record {
    same_size = size;
    side = λ t r in_t in_r team slot. home_kept t r in_t in_r (others t in_t team);
    before = λ t r in_t in_r team slot. home_kept t (r - 1) in_t (omega arith) (others t in_t team);
  }

  SeesSameUntil-unflipped : (teams slots : ℕ → Bool) → ((t : ℕ) → t < g.teams → teams t ≡ true → has sides t ≡ false) →
      SeesSameUntil g g' teams slots
  unfolding is_home
  SeesSameUntil-unflipped teams slots others = record {
    same_size = size;
    side = λ t r k in_t in_r team slot until. home_kept t k in_t (omega arith) (others t in_t team);
  }

  none_flips : (teams : ℕ) → g.teams ≤ max_teams → has_touched_team teams (has sides) ≡ false → (t : ℕ) → t < g.teams → has teams t ≡ true →
      has sides t ≡ false
  unfolding has_touched_team
  none_flips teams forty none t in_t team =
      other_fails (has teams t) (has sides t) (any_below_fails max_teams (λ t. has teams t && has sides t) none t (omega arith)) team

module _ (g g' : Games) (rr : IsDoubleRoundRobin g) (rr' : IsDoubleRoundRobin g') (main rounds sides : ℕ)
    (differs : DiffersOnlyAround g g' (has main) (has rounds))
    (flipped : DiffersOnlyAt is_home g g' (box (has sides) (has rounds))) where
  outside : DiffersOnlyIn g g' (λ _. true) (has rounds)
  outside = record { same_size = differs.same_size; same_cells = differs.same_cells }

  opponent_in' : (t r : ℕ) → t < g.teams → r < round_count g.teams → (cell g' t r).opponent < g.teams
  opponent_in' t r in_t in_r =
      omega (arith, differs.same_size, (is_cell g' rr' t r (rw differs.same_size in_t) (rw differs.same_size in_r)).pair.away_in)

  -- a team that isn't main meets a main team in a round of the change before it and after it, or neither
  meets_main : (t r : ℕ) → t < g.teams → r < round_count g.teams → has main t ≡ false →
      has main (cell g' t r).opponent ≡ has main (cell g t r).opponent
  meets_main t r in_t in_r other = elim (differs.others t r in_t in_r other).same_or_in [
    | inl same ↦ ap (has main) same
    | inr both ↦ both.1 ∙ sym both.0
  ]

  guest_same : (t : ℕ) → t < g.teams → has main t ≡ false → is_guest g' (has main) (has rounds) t ≡ is_guest g (has main) (has rounds) t
  unfolding is_guest
  guest_same t in_t other =
      ap (λ (n : ℕ). any_below (round_count n) (λ r. has rounds r && has main (cell g' t r).opponent)) differs.same_size ∙
      any_below_same (round_count g.teams) (λ r. has rounds r && has main (cell g' t r).opponent)
      (λ r. has rounds r && has main (cell g t r).opponent)
      (λ r in_r. ap (λ (b : Bool). has rounds r && b) (meets_main t r in_t in_r other))

  meets_same : (opponents t : ℕ) → t < g.teams → meets_otherwise g' main rounds opponents t ≡ meets_otherwise g main rounds opponents t
  unfolding meets_otherwise
  meets_same opponents t in_t = elim (cases_Bool (has main t)) [
    | inl is ↦ rw is refl
    | inr other ↦ rw (other, guest_same t in_t other) refl
  ]

  counts_same : (opponents t : ℕ) → t < g.teams →
      counts_otherwise g' main rounds sides opponents t ≡ counts_otherwise g main rounds sides opponents t
  unfolding counts_otherwise
  counts_same opponents t in_t =
      ap (λ (n : ℕ). if opponents == all_numbers n then has sides t else meets_otherwise g' main rounds opponents t) differs.same_size ∙
      ap (λ (b : Bool). if opponents == all_numbers g.teams then has sides t else b) (meets_same opponents t in_t)

  one_counts_same : (opponents teams : ℕ) → IsBelow g.teams teams →
      has_touched_team teams (counts_otherwise g' main rounds sides opponents) ≡
      has_touched_team teams (counts_otherwise g main rounds sides opponents)
  unfolding has_touched_team
  one_counts_same opponents teams below =
      any_below_same max_teams (λ t. has teams t && counts_otherwise g' main rounds sides opponents t)
      (λ t. has teams t && counts_otherwise g main rounds sides opponents t)
      (λ t in_t. elim (cases_lt t g.teams) [
        | inl lt ↦ ap (λ (b : Bool). has teams t && b) (counts_same opponents t lt)
        | inr past ↦ rw (has_beyond g.teams teams t below past) refl
      ])

  -- a team that doesn't meet otherwise meets an opponent of the rule before and after, or neither
  met_kept : (opponents t r : ℕ) → t < g.teams → r < round_count g.teams → meets_otherwise g main rounds opponents t ≡ false →
      has opponents (cell g' t r).opponent ≡ has opponents (cell g t r).opponent
  unfolding meets_otherwise is_guest
  met_kept opponents t r in_t in_r out =
      let parts = or_parts (has main t) (not (takes_all_or_none main opponents) && is_guest g (has main) (has rounds) t) out in
      elim (and_cases (not (takes_all_or_none main opponents)) (is_guest g (has main) (has rounds) t) parts.1) [
        | inl all_or_none ↦ elim (differs.others t r in_t in_r parts.0).same_or_in [
          | inl same ↦ ap (has opponents) same
          | inr both ↦
              TakesAllOrNone-tested main opponents (not-false _ all_or_none) _ _ (omega (arith, rr.most, opponent_in' t r in_t in_r))
              (omega (arith, rr.most, (is_cell g rr t r in_t in_r).pair.away_in)) both.1 both.0
        ]
        | inr no_guest ↦ by_round parts.0 no_guest (has rounds r) refl
      ]
    where
      by_round : has main t ≡ false → any_below (round_count g.teams) (λ r. has rounds r && has main (cell g t r).opponent) ≡ false →
          (b : Bool) → has rounds r ≡ b → has opponents (cell g' t r).opponent ≡ has opponents (cell g t r).opponent
      by_round other no_guest false outside = ap (λ (c : Cell). has opponents c.opponent) (differs.same_cells t r in_t in_r outside)
      by_round other no_guest true inside = elim (differs.others t r in_t in_r other).same_or_in [
        | inl same ↦ ap (has opponents) same
        | inr both ↦
            let fails : (has rounds r && has main (cell g t r).opponent) ≡ false =
            any_below_fails (round_count g.teams) (λ r. has rounds r && has main (cell g t r).opponent) no_guest r in_r in
            absurd (false≢true (sym fails ∙ rw (inside, both.0) refl))
      ]

  -- against all teams each opponent counts
  in_all : (opponents o : ℕ) → opponents ≡ all_numbers g.teams → o < g.teams → has opponents o ≡ true
  in_all opponents o all in_o = ap (λ (s : ℕ). has s o) all ∙ has_all_numbers g.teams o ∙ lt-ltb o g.teams in_o

  -- the games of a team that doesn't count otherwise are on the same side, against an opponent of the rule before and after or neither
  opponent_kept : (opponents t r : ℕ) → t < g.teams → r < round_count g.teams →
      counts_otherwise g main rounds sides opponents t ≡ false → has opponents (cell g' t r).opponent ≡ has opponents (cell g t r).opponent
  unfolding counts_otherwise
  opponent_kept opponents t r in_t in_r out = elim (cases_eq opponents (all_numbers g.teams)) [
    | inl all ↦ in_all opponents (cell g' t r).opponent all (opponent_in' t r in_t in_r) ∙
        sym (in_all opponents (cell g t r).opponent all (is_cell g rr t r in_t in_r).pair.away_in)
    | inr some ↦ met_kept opponents t r in_t in_r
        (sym (cond-false (opponents == all_numbers g.teams) (has sides t) _ (ne_eqb _ _ some)) ∙ out)
  ]

  side_kept : (opponents t r : ℕ) → t < g.teams → r < round_count g.teams →
      counts_otherwise g main rounds sides opponents t ≡ false → (cell g' t r).home ≡ (cell g t r).home
  unfolding counts_otherwise meets_otherwise is_home
  side_kept opponents t r in_t in_r out = elim (cases_eq opponents (all_numbers g.teams)) [
    | inl all ↦ home_kept g g' differs.same_size sides rounds flipped t r in_t in_r
        (sym (cond-true (opponents == all_numbers g.teams) _ (meets_otherwise g main rounds opponents t) (eq-eqb _ _ all)) ∙ out)
    | inr some ↦
        let met = sym (cond-false (opponents == all_numbers g.teams) (has sides t) _ (ne_eqb _ _ some)) ∙ out in
        (differs.others t r in_t in_r (or_parts (has main t) _ met).0).same_side
  ]

  SeesSame-others : (opponents : ℕ) (teams slots : ℕ → Bool) →
      ((t : ℕ) → t < g.teams → teams t ≡ true → counts_otherwise g main rounds sides opponents t ≡ false) →
      SeesSame g g' teams slots (has opponents)
  SeesSame-others opponents teams slots others = record {
    same_size = differs.same_size;
    side = λ t r in_t in_r team slot. side_kept opponents t r in_t in_r (others t in_t team);
    opponent = λ t r in_t in_r team slot. opponent_kept opponents t r in_t in_r (others t in_t team);
  }

  -- those that don't count otherwise
  abbrev others : ℕ → ℕ → Bool
  others opponents t = not (counts_otherwise g main rounds sides opponents t)

  SeesSame-counted : (opponents : ℕ) (slots : ℕ → Bool) → SeesSame g g' (others opponents) slots (has opponents)
  SeesSame-counted opponents slots = SeesSame-others opponents (others opponents) slots (λ t in_t is. not-true _ is)

  -- none of a rule's teams counts otherwise
  SeesSame-none : (opponents teams : ℕ) (slots : ℕ → Bool) →
      has_touched_team teams (counts_otherwise g main rounds sides opponents) ≡ false → SeesSame g g' (has teams) slots (has opponents)
  unfolding has_touched_team
  SeesSame-none opponents teams slots none =
      SeesSame-others opponents (has teams) slots
      (λ t in_t team.
      other_fails (has teams t) _
      (any_below_fails max_teams (λ t. has teams t && counts_otherwise g main rounds sides opponents t) none t (omega (arith, rr.most))) team)

  -- windows that have none of the rounds
  window_same : (side : Side) (opponents : ℕ → Bool) (window t first : ℕ) → t < g.teams → first + window ≤ round_count g.teams →
      meets_window (has rounds) window first ≡ false →
      games_in_window g' side opponents window t first ≡ games_in_window g side opponents window t first
  unfolding meets_window games_in_window is_counted
  window_same side opponents window t first in_t within none =
      count_where_same window (λ k. is_counted g' side opponents t (first + k)) (λ k. is_counted g side opponents t (first + k))
      (λ k below. counted_outside (first + k) (omega arith) (any_below_fails window (λ k. has rounds (first + k)) none k below))
    where
      counted_outside : (r : ℕ) → r < round_count g.teams → has rounds r ≡ false →
          is_counted g' side opponents t r ≡ is_counted g side opponents t r
      counted_outside r in_r out = ap (λ (c : Cell). is_on_side side c.home && opponents c.opponent) (differs.same_cells t r in_t in_r out)

  windows_balance : (side : Side) (opponents : ℕ → Bool) (window most t : ℕ) → t < g.teams → window ≤ round_count g.teams →
      over_in_windows g' side opponents window most t + over_in_met_windows g side opponents window most (has rounds) t ≡
      over_in_windows g side opponents window most t + over_in_met_windows g' side opponents window most (has rounds) t
  unfolding over_in_windows over_in_met_windows
  windows_balance side opponents window most t in_t within =
      where_balance (round_count g.teams + 1 - window) (round_count g'.teams + 1 - window) (λ _. true) (meets_window (has rounds) window)
      (meets_window (has rounds) window)
      (λ first. over (games_in_window g' side opponents window t first) most)
      (λ first. over (games_in_window g side opponents window t first) most)
      (λ first. over (games_in_window g' side opponents window t first) most)
      (λ first. over (games_in_window g side opponents window t first) most)
      (ap (λ (n : ℕ). round_count n + 1 - window) differs.same_size) (λ first below. refl) (λ first below is. omega arith)
      (λ first below is none. ap (λ (count : ℕ). over count most) (window_same side opponents window t first in_t (omega arith) none))

  -- games of main teams in the rounds
  moved_game_kept : (games : List Pairing) → AllByRecursion (IsGameFor g.teams) games →
      has_moved_game g (has main) (has rounds) games ≡ false →
      AllByRecursion (λ (game : Pairing). round_of g' game.home game.away ≡ round_of g game.home game.away) games
  unfolding has_moved_game
  moved_game_kept [] all none = tt
  moved_game_kept (game ∷ games) all none =
      let parts = or_parts ((has main game.home || has main game.away) && has rounds (round_of g game.home game.away))
      (list_any (λ (game : Pairing). (has main game.home || has main game.away) && has rounds (round_of g game.home game.away)) games)
      none in (
        kept game all.0 (and_cases (has main game.home || has main game.away) (has rounds (round_of g game.home game.away)) parts.0),
        moved_game_kept games all.1 parts.1,
      )
    where
      kept : (game : Pairing) → IsGameFor g.teams game →
          ((has main game.home || has main game.away) ≡ false) ⊎ (has rounds (round_of g game.home game.away) ≡ false) →
          round_of g' game.home game.away ≡ round_of g game.home game.away
      kept game is untouched = elim untouched [
        | inl others ↦
            let parts = or_parts (has main game.home) (has main game.away) others in
            round_of_kept_around g g' (has main) (has rounds) rr rr' differs game.home game.away
            (record { home_in = is.home; away_in = is.away; distinct = is.distinct }) parts.0 parts.1
        | inr out ↦ game_stays g g' rr (λ _. true) (has rounds) outside rr' game is out
      ]

  -- a game of the list in the rounds is one in both schedules
  moved_game_same : (games : List Pairing) → AllByRecursion (IsGameFor g.teams) games →
      has_moved_game g' (has main) (has rounds) games ≡ has_moved_game g (has main) (has rounds) games
  unfolding has_moved_game
  moved_game_same [] all = refl
  moved_game_same (game ∷ games) all = rw (stays_inside g g' rr rr' (has rounds) outside game all.0, moved_game_same games all.1) refl

  terms_balance : (body : RuleBody) → IsBodyFor g.teams body →
      deviation g' body + changing_terms g main rounds sides body ≡ deviation g body + changing_terms g' main rounds sides body
  unfolding deviation changing_terms short_pairs rounds_between worst_gaps worst_gaps_with
  terms_balance (Ca1 teams side slots most) is =
      whole_terms_balance g.teams g'.teams (has teams) (has sides) (has sides)
      (λ t. over (games_of_team g' side (λ _. true) (has slots) t) most) (λ t. over (games_of_team g side (λ _. true) (has slots) t) most)
      differs.same_size (λ t in_t. refl)
      (λ t in_t team out. ap (λ (count : ℕ). over count most)
      (games_of_team-same g g' (λ t. not (has sides t)) (has slots) (λ _. true)
      (SeesSame-unflipped g g' differs.same_size sides rounds flipped (has slots)) side t in_t (not_from_false _ out)))
  terms_balance (Ca2 teams1 side teams2 slots most) is =
      whole_terms_balance g.teams g'.teams (has teams1) (counts_otherwise g main rounds sides teams2)
      (counts_otherwise g' main rounds sides teams2)
      (λ t. over (games_of_team g' side (has teams2) (has slots) t) most) (λ t. over (games_of_team g side (has teams2) (has slots) t) most)
      differs.same_size (counts_same teams2)
      (λ t in_t team out. ap (λ (count : ℕ). over count most)
      (games_of_team-same g g' (others teams2) (has slots) (has teams2)
      (SeesSame-counted teams2 (has slots)) side t in_t (not_from_false _ out)))
  terms_balance (Ca3 teams1 side teams2 window most) is =
      where_balance g.teams g'.teams (has teams1) (counts_otherwise g main rounds sides teams2)
      (counts_otherwise g' main rounds sides teams2) (over_in_windows g' side (has teams2) window most)
      (over_in_windows g side (has teams2) window most)
      (over_in_met_windows g' side (has teams2) window most (has rounds)) (over_in_met_windows g side (has teams2) window most (has rounds))
      differs.same_size (counts_same teams2)
      (λ t in_t inside. windows_balance side (has teams2) window most t in_t is.3)
      (λ t in_t team out.
      over_in_windows-same g g' (others teams2) (has teams2)
      (SeesSame-counted teams2 (λ _. true)) side window most t in_t (not_from_false _ out) is.3)
  terms_balance (Ca4 teams1 side teams2 slots false most) is =
      whole_balance (has_touched_team teams1 (counts_otherwise g main rounds sides teams2))
      (has_touched_team teams1 (counts_otherwise g' main rounds sides teams2)) _ _ (one_counts_same teams2 teams1 is.0)
      (λ none. together-same g g' (has teams1) (has slots) (has teams2) (SeesSame-none teams2 teams1 (has slots) none) side most)
  terms_balance (Ca4 teams1 side teams2 slots true most) is =
      part_balance (has_touched_team teams1 (counts_otherwise g main rounds sides teams2))
      (has_touched_team teams1 (counts_otherwise g' main rounds sides teams2)) _ _ _ _ (one_counts_same teams2 teams1 is.0)
      (whole_terms_balance (round_count g.teams) (round_count g'.teams) (has slots) (has rounds) (has rounds)
      (λ r. over (games_in_round g' side (has teams1) (has teams2) r) most)
      (λ r. over (games_in_round g side (has teams1) (has teams2) r) most)
      (ap round_count differs.same_size) (λ r in_r. refl)
      (λ r in_r slot out. ap (λ (count : ℕ). over count most)
      (games_in_round-same g g' (has teams1) (λ r. not (has rounds r)) (has teams2)
      (SeesSame-outside g g' rr rr' (has rounds) outside (has teams1) (λ r. not (has rounds r)) (has teams2)
      (λ r in_r out. not-true _ out)) side r in_r (not_from_false _ out))))
      (λ none. each-same g g' (has teams1) (has slots) (has teams2) (SeesSame-none teams2 teams1 (has slots) none) side most)
  terms_balance (Ga1 games slots least most) is =
      whole_balance (has_moved_game g (has main) (has rounds) games) (has_moved_game g' (has main) (has rounds) games) _ _
      (moved_game_same games is.0)
      (λ none. ap (λ (count : ℕ). over count most + over least count)
      (listed_games_in-same g g' (has slots) games (in_slots games (moved_game_kept games is.0 none))))
    where
      in_slots : (games : List Pairing) →
          AllByRecursion (λ (game : Pairing). round_of g' game.home game.away ≡ round_of g game.home game.away) games →
          AllByRecursion (λ (game : Pairing). has slots (round_of g' game.home game.away) ≡ has slots (round_of g game.home game.away))
          games
      in_slots [] all = tt
      in_slots (game ∷ games) all = (ap (has slots) all.0, in_slots games all.1)
  terms_balance (Br1 teams side slots most) is =
      whole_terms_balance g.teams g'.teams (has teams) (has sides) (has sides)
      (λ t. over (breaks g' t (has slots) side) most) (λ t. over (breaks g t (has slots) side) most) differs.same_size (λ t in_t. refl)
      (λ t in_t team out. ap (λ (count : ℕ). over count most)
      (breaks-same g g' (λ t. not (has sides t)) (has slots)
      (SeesSameBreaks-unflipped g g' differs.same_size sides rounds flipped (λ t. not (has sides t)) (has slots) (λ t in_t is. not-true _ is))
      side t in_t (not_from_false _ out)))
  terms_balance (Br2 teams slots most) is =
      whole_balance (has_touched_team teams (has sides)) (has_touched_team teams (has sides)) _ _ refl
      (λ none. breaks_of_all-same g g' (has teams) (has slots)
      (SeesSameBreaks-unflipped g g' differs.same_size sides rounds flipped (has teams) (has slots)
      (none_flips g g' differs.same_size sides rounds flipped teams rr.most none)) Any most)
  terms_balance (Se1 teams least) is = short_pairs_balance g g' rr rr' main rounds differs teams least
  terms_balance (Fa2 teams slots most) is =
      sized (λ n. sum_of_pairs n (λ i j. if has teams i && has teams j then worst_gap g' (has slots) most i j else 0))
      (λ n. sum_of_pairs n (λ i j. if is_pair_with teams sides i j then worst_gap g' (has slots) most i j else 0)) _ _
      (sum_of_pairs_balance g.teams _ _ _ _
      (λ i j lower in_j. at (has teams i && has teams j) (has sides i || has sides j) _ _
      (λ out.
      let parts = or_parts (has sides i) (has sides j) out in
      worst_gap-same g g' (λ t. not (has sides t)) (has slots)
      (SeesSameUntil-unflipped g g' differs.same_size sides rounds flipped (λ t. not (has sides t)) (has slots)
      (λ t in_t is. not-true _ is)) most i j (omega arith) in_j (not_from_false _ parts.0) (not_from_false _ parts.1))))
    where
      sized : (whole part : ℕ → ℕ) (x y : ℕ) → whole g.teams + x ≡ y + part g.teams → whole g'.teams + x ≡ y + part g'.teams
      sized whole part x y same = subst (λ (n : ℕ). whole n + x ≡ y + part n) (sym differs.same_size) same

      at : (both one : Bool) (new old : ℕ) → (one ≡ false → new ≡ old) →
          (if both then new else 0) + (if both && one then old else 0) ≡ (if both then old else 0) + (if both && one then new else 0)
      at true one new old stays = whole_balance one one new old refl stays
      at false one new old stays = refl

  pub deviation_balance : (body : RuleBody) → IsBodyFor g.teams body →
      deviation g' body + deviation_part g main rounds sides body ≡ deviation g body + deviation_part g' main rounds sides body
  unfolding deviation_part
  deviation_balance body is =
      part_balance (can_alter body (has rounds)) (can_alter body (has rounds)) _ _ _ _ refl (terms_balance body is)
      (unaltered_deviation g g' rr rr' (has rounds) outside body is)
