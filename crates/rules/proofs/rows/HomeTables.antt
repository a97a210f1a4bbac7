-- Tables of home games: how one follows a schedule, and what its rows tell of FA2.
use Rattle.std.proofs.Common.{◌≡◌, ◌≢◌, ℕ, ◌+◌, ◌<◌, ◌≤◌, ◌&&◌, ◌||◌, ◌==◌, not, nat_lt, Bool, true, false, if◌then◌else◌, min, max}
use Rattle.std.proofs.Common.{List, [], get_or, refl, sym, ◌∙◌, ap, subst, inl, inr, arith, get_or-set_other}
use Rattle.std.proofs.Math.ListN.{set, replicate}
use Rattle.std.proofs.lemmas.Grind.{get_or-set_at, get_or_default_zero}
use Rattle.std.proofs.lemmas.List.{get_or-replicate, length-set}
use Rattle.std.proofs.lemmas.Bool.{cases_eq, cond-false, eq-eqb, false≢true, le-ltb, lt-ltb, or_parts}
use Rattle.std.proofs.Math.Bool.{and-true}
use Rattle.league.specs.Limits.{max_teams}
use Rattle.league.specs.Sets.{has, IsBelow}
use Rattle.league.specs.within.Sets.{IsWithoutLowest}
use Rattle.league.specs.Sums.{sum_below, sum_where}
use Rattle.league.specs.declared.rule.RuleBody.TheVariants.{Fa2}
use Rattle.league.proofs.ForCallers.{count_where_none, has_empty, others_kept, has_beyond, sum_below_past, sum_below_same, sum_below_zero}
use Rattle.league.proofs.ForCallers.{sum_of_pairs_same}
use Rattle.fixtures.specs.Games.{Games, round_count, is_home, IsDoubleRoundRobin}
use Rattle.rules.specs.Deviations.{over, deviation, home_games, worst_gap, worst_gaps}
use Rattle.rules.specs.Parts.{is_pair_with, worst_gaps_with}
use Rattle.rules.specs.within.HomeTables.{AreRowsOf, IsHomeRow, IsHomeTable, is_home_with, over_of_rows}
use Rattle.rules.specs.within.Walked.{mask_in, row_of, row_length, worst_apart}
use Rattle.rules.specs.declared.home_table.HomeTable.{HomeTable}
use Rattle.rules.proofs.limits.Largest.{largest_below_le_each}
use Rattle.rules.proofs.rows.HomeRows.{home_before, row_of_schedule, same_home_row, worst_gap_of_rows}

zeros_row : IsHomeRow (has 0) (replicate row_length 0)
zeros_row = record {
  len = refl;
  counts = λ r in_row.
      get_or-replicate row_length r 0 0 in_row ∙ sym (count_where_none (r + 1) (has 0) (λ k below. has_empty k));
}

-- the table of teams that are never at home
pub new_table : (empty : ℕ) → empty ≡ 0 →
    IsHomeTable (record { homes = replicate max_teams empty; rows = replicate max_teams (replicate row_length 0) })
new_table empty nothing = record {
  homes_len = refl;
  rows_len = refl;
  rows = λ t t_below.
      subst (λ (h : ℕ). IsHomeRow (has h) (row_of (replicate max_teams (replicate row_length 0)) t))
      (sym (get_or-replicate max_teams t empty 0 t_below ∙ nothing))
      (subst (IsHomeRow (has 0)) (sym (get_or-replicate max_teams t (replicate row_length 0) [] t_below)) zeros_row);
}

-- a team's row is one that can be flipped
pub row_to_flip : (table : HomeTable) (team row default homes changed : ℕ) → IsHomeTable table → row ≡ team → team < max_teams →
    ((r : ℕ) → has changed r ≡
    (if has homes r then not (has (get_or table.homes row default) r) else has (get_or table.homes row default) r)) →
    IsHomeRow (is_home_with homes changed) (get_or table.rows row [])
row_to_flip table team row default homes changed is here in_table members =
    let old : get_or table.homes row default ≡ get_or table.homes row 0 =
    get_or_default_zero table.homes row default (omega (arith, here, in_table, is.homes_len)) in
    same_home_row (get_or table.rows row []) (has (get_or table.homes row 0)) (is_home_with homes changed)
    (home_before (get_or table.homes row 0) homes changed
    (λ r. members r ∙ ap (λ (s : ℕ). if has homes r then not (has s r) else has s r) old))
    (is.rows row (omega (arith, here, in_table)))

-- Those teams that aren't left have the rows of a schedule. Those that haven't flipped have the rows that they had before.
pub record HasFollowed (g : Games) (before : List (List ℕ)) (table : HomeTable) (teams left flipped : ℕ) : Type 0 where
  pub below : IsBelow g.teams left
  pub is : IsHomeTable table
  pub rows : (t r : ℕ) → has teams t ≡ true → has left t ≡ false → r < round_count g.teams →
      get_or (row_of table.rows t) r 0 ≡ home_games g t r
  pub others : (t : ℕ) → has flipped t ≡ false → row_of table.rows t ≡ row_of before t

pub followed_none : (g : Games) (table : HomeTable) (teams left flipped : ℕ) → IsHomeTable table → IsBelow g.teams teams → left ≡ teams →
    HasFollowed g table.rows table teams left flipped
followed_none g table teams left flipped is below whole = record {
  below = rw whole below;
  is = is;
  rows = λ t r in_teams gone in_season. absurd (false≢true (sym gone ∙ ap (λ s. has s t) whole ∙ in_teams));
  others = λ t stays. refl;
}

pub followed_all : (g : Games) (before : List (List ℕ)) (table : HomeTable) (teams left flipped : ℕ) → left ≡ 0 →
    HasFollowed g before table teams left flipped → AreRowsOf g (has teams) table.rows
followed_all g before table teams left flipped none so_far =
    λ t r in_teams in_season. so_far.rows t r in_teams (ap (λ s. has s t) none ∙ has_empty t) in_season

-- a team that hasn't flipped
pub followed_same : (g : Games) (before : List (List ℕ)) (table : HomeTable) (teams left flipped team rest row default homes : ℕ) →
    g.teams ≤ max_teams → HasFollowed g before table teams left flipped → IsWithoutLowest left team rest → row ≡ team →
    team < g.teams → ((r : ℕ) → has homes r ≡ (nat_lt r (round_count g.teams) && is_home g team r)) →
    get_or table.homes row default ≡ homes → HasFollowed g before table teams rest flipped
followed_same g before table teams left flipped team rest row default homes forty so_far taken here in_games members same_homes = record {
  below = omega (arith, so_far.below, taken.fewer);
  is = so_far.is;
  rows = λ t r in_teams gone in_season. elim (cases_eq t team) [
    | inl same ↦
        ap (λ (k : ℕ). get_or (row_of table.rows k) r 0) same ∙
        row_of_schedule g team homes (row_of table.rows team) (omega (arith, forty)) members
        (subst (λ (h : ℕ). IsHomeRow (has h) (row_of table.rows team)) (sym is_homes ∙ same_homes)
        (so_far.is.rows team (omega (arith, in_games, forty)))) r in_season ∙
        ap (λ (k : ℕ). home_games g k r) (sym same)
    | inr apart ↦ so_far.rows t r in_teams (sym (others_kept left team rest t taken apart) ∙ gone) in_season
  ];
  others = so_far.others;
}
  where
    is_homes : get_or table.homes row default ≡ get_or table.homes team 0
    is_homes =
        get_or_default_zero table.homes row default (omega (arith, here, in_games, forty, so_far.is.homes_len)) ∙
        ap (λ (k : ℕ). get_or table.homes k 0) here

-- one team's row is flipped
module _ (g : Games) (before : List (List ℕ)) (table : HomeTable) (teams left some more team rest row homes : ℕ) (flipped : List ℕ)
    (forty : g.teams ≤ max_teams) (so_far : HasFollowed g before table teams left some)
    (now : (t : ℕ) → has more t ≡ (t == team || has some t)) (taken : IsWithoutLowest left team rest) (here : row ≡ team) (in_games : team < g.teams)
    (members : (r : ℕ) → has homes r ≡ (nat_lt r (round_count g.teams) && is_home g team r)) (row_is : IsHomeRow (has homes) flipped) where
  in_table : team < max_teams
  in_table = omega (arith, in_games, forty)

  home_kept : (t : ℕ) → t ≢ team → get_or (set table.homes row homes) t 0 ≡ get_or table.homes t 0
  home_kept t apart = let other : t ≢ row = omega (arith, here, apart) in get_or-set_other table.homes row t homes 0 other

  home_here : get_or (set table.homes row homes) team 0 ≡ homes
  home_here = get_or-set_at table.homes row team homes 0 (sym here) (omega (arith, here, in_table, so_far.is.homes_len))

  row_kept : (t : ℕ) → t ≢ team → get_or (set table.rows row flipped) t [] ≡ get_or table.rows t []
  row_kept t apart = let other : t ≢ row = omega (arith, here, apart) in get_or-set_other table.rows row t flipped [] other

  row_here : get_or (set table.rows row flipped) team [] ≡ flipped
  row_here = get_or-set_at table.rows row team flipped [] (sym here) (omega (arith, here, in_table, so_far.is.rows_len))

  rows_are : (t : ℕ) → t < max_teams → IsHomeRow (has (get_or (set table.homes row homes) t 0)) (get_or (set table.rows row flipped) t [])
  rows_are t below = elim (cases_eq t team) [
    | inl same ↦
        subst (λ (k : ℕ). IsHomeRow (has (get_or (set table.homes row homes) k 0)) (get_or (set table.rows row flipped) k [])) (sym same)
        (subst (λ (h : ℕ). IsHomeRow (has h) (get_or (set table.rows row flipped) team [])) (sym home_here)
        (subst (IsHomeRow (has homes)) (sym row_here) row_is))
    | inr apart ↦
        subst (λ (h : ℕ). IsHomeRow (has h) (get_or (set table.rows row flipped) t [])) (sym (home_kept t apart))
        (subst (IsHomeRow (has (get_or table.homes t 0))) (sym (row_kept t apart)) (so_far.is.rows t below))
  ]

  pub followed_more : HasFollowed g before (record { homes = set table.homes row homes; rows = set table.rows row flipped }) teams rest more
  followed_more = record {
    below = omega (arith, so_far.below, taken.fewer);
    is = record {
      homes_len = length-set table.homes row homes ∙ so_far.is.homes_len;
      rows_len = length-set table.rows row flipped ∙ so_far.is.rows_len;
      rows = rows_are;
    };
    rows = λ t r in_teams gone in_season. elim (cases_eq t team) [
      | inl same ↦
          ap (λ (k : ℕ). get_or (get_or (set table.rows row flipped) k []) r 0) same ∙ ap (λ (l : List ℕ). get_or l r 0) row_here ∙
          row_of_schedule g team homes flipped (omega (arith, forty)) members row_is r in_season ∙ ap (λ (k : ℕ). home_games g k r) (sym same)
      | inr apart ↦
          ap (λ (l : List ℕ). get_or l r 0) (row_kept t apart) ∙
          so_far.rows t r in_teams (sym (others_kept left team rest t taken apart) ∙ gone) in_season
    ];
    others = λ t stays.
        let parts = or_parts (t == team) (has some t) (sym (now t) ∙ stays) in
        row_kept t (λ same. false≢true (sym parts.0 ∙ eq-eqb t team same)) ∙ so_far.others t parts.1;
  }

-- the rows of those teams that aren't left lie between two rows
pub record AreBetween (rows : List (List ℕ)) (lowest highest : List ℕ) (teams left : ℕ) : Type 0 where
  pub below : IsBelow max_teams left
  pub between : (t r : ℕ) → has teams t ≡ true → has left t ≡ false → r < row_length →
      (get_or lowest r 0 ≤ get_or (row_of rows t) r 0) × (get_or (row_of rows t) r 0 ≤ get_or highest r 0)

pub between_none : (rows : List (List ℕ)) (lowest highest : List ℕ) (teams left : ℕ) → IsBelow max_teams teams → left ≡ teams →
    AreBetween rows lowest highest teams left
between_none rows lowest highest teams left below whole = record {
  below = rw whole below;
  between = λ t r in_teams gone in_row. absurd (false≢true (sym gone ∙ ap (λ s. has s t) whole ∙ in_teams));
}

pub between_more : (rows : List (List ℕ)) (lowest highest lower higher : List ℕ) (teams left team rest row : ℕ) →
    AreBetween rows lowest highest teams left → IsWithoutLowest left team rest → row ≡ team →
    ((r : ℕ) → r < row_length → get_or higher r 0 ≡ max (get_or highest r 0) (get_or (get_or rows row []) r 0)) →
    ((r : ℕ) → r < row_length → get_or lower r 0 ≡ min (get_or lowest r 0) (get_or (get_or rows row []) r 0)) →
    AreBetween rows lower higher teams rest
between_more rows lowest highest lower higher teams left team rest row so_far taken here raised lowered = record {
  below = omega (arith, so_far.below, taken.fewer);
  between = λ t r in_teams gone in_row. elim (cases_eq t team) [
    | inl same ↦
        let is : get_or (row_of rows t) r 0 ≡ get_or (get_or rows row []) r 0 =
        ap (λ (k : ℕ). get_or (get_or rows k []) r 0) (same ∙ sym here) in
        (omega (arith, is, lowered r in_row), omega (arith, is, raised r in_row))
    | inr apart ↦
        let old = so_far.between t r in_teams (sym (others_kept left team rest t taken apart) ∙ gone) in_row in
        (omega (arith, old.0, lowered r in_row), omega (arith, old.1, raised r in_row))
  ];
}

-- so no two of them are further apart than these
pub none_further : (rows : List (List ℕ)) (mask lowest highest : List ℕ) (teams left : ℕ) → left ≡ 0 →
    AreBetween rows lowest highest teams left → (t o : ℕ) → has teams t ≡ true → has teams o ≡ true →
    worst_apart mask (row_of rows t) (row_of rows o) ≤ worst_apart mask highest lowest
unfolding worst_apart
none_further rows mask lowest highest teams left none so_far t o in_t in_o =
    largest_below_le_each row_length _ _
    (λ r in_row.
    let of_t = so_far.between t r in_t (ap (λ s. has s t) none ∙ has_empty t) in_row in
    let of_o = so_far.between o r in_o (ap (λ s. has s o) none ∙ has_empty o) in_row in
    omega (arith, of_t.0, of_t.1, of_o.0, of_o.1))

-- the sum over the lower ones of some teams of which, or of which the team, is in a set
pub sum_of_lower : (team teams set lower : ℕ) (f : ℕ → ℕ) → team ≤ max_teams →
    ((o : ℕ) → has lower o ≡ ((has teams o && nat_lt o team) && (has set o || has set team))) →
    sum_where max_teams (has lower) f ≡ sum_where team (λ o. has teams o && (has set o || has set team)) f
sum_of_lower team teams set lower f within members =
    sum_below_past team max_teams (λ o. if has lower o then f o else 0) within
    (λ o past below.
    cond-false {A = ℕ} (has lower o) (f o) 0
    (members o ∙ ap (λ b. (has teams o && b) && (has set o || has set team)) (le-ltb o team past) ∙ neither (has teams o) _)) ∙
    sum_below_same team _ _
    (λ o below.
    ap (λ (b : Bool). if b then f o else 0)
    (members o ∙ ap (λ b. (has teams o && b) && (has set o || has set team)) (lt-ltb o team below) ∙
    ap (λ b. b && (has set o || has set team)) (and-true (has teams o))))
  where
    neither : (b c : Bool) → ((b && false) && c) ≡ false
    neither true c = refl
    neither false c = refl

-- all pairs of a rule's teams are those of which one is one of its teams
pub all_gaps : (g : Games) (teams slots most : ℕ) → worst_gaps_with g teams slots most teams ≡ deviation g (Fa2 teams slots most)
unfolding deviation worst_gaps worst_gaps_with
all_gaps g teams slots most =
    sum_of_pairs_same g.teams _ _ (λ i j lower in_j. at (has teams i) (has teams j) (worst_gap g (has slots) most i j))
  where
    at : (a b : Bool) (x : ℕ) → (if (a && b) && (a || b) then x else 0) ≡ (if a && b then x else 0)
    at true true x = refl
    at true false x = refl
    at false b x = refl

-- sums of a number of each pair, added up at the higher team
module _ (g : Games) (teams set slots most : ℕ) (pair : ℕ → ℕ → ℕ) (rr : IsDoubleRoundRobin g) (of_teams : IsBelow g.teams teams)
    (are : (o t : ℕ) → o < t → has teams o ≡ true → has teams t ≡ true → over (pair o t) most ≡ worst_gap g (has slots) most o t) where
  abbrev of_lower : ℕ → ℕ
  of_lower t = sum_where t (λ o. has teams o && (has set o || has set t)) (λ o. over (pair o t) most)

  abbrev gaps_of : ℕ → ℕ
  gaps_of t = sum_below t (λ o. if is_pair_with teams set o t then worst_gap g (has slots) most o t else 0)

  same_of : (t : ℕ) (in_t : Bool) → has teams t ≡ in_t → (if has teams t then of_lower t else 0) ≡ gaps_of t
  same_of t true is =
      rw is (sum_below_same t _ _ (λ o lower. at o (has set o || has set t) lower (has teams o) refl))
    where
      at : (o : ℕ) (one : Bool) → o < t → (a : Bool) → has teams o ≡ a →
          (if has teams o && one then over (pair o t) most else 0) ≡
          (if (has teams o && true) && one then worst_gap g (has slots) most o t else 0)
      at o true lower true in_o = rw in_o (are o t lower in_o is)
      at o false lower true in_o = rw in_o refl
      at o one lower false out = rw out refl
  same_of t false out = rw out (sym (sum_below_zero t _ (λ o lower. none (has teams o) _ _)))
    where
      none : (a b : Bool) (x : ℕ) → (if (a && false) && b then x else 0) ≡ 0
      none true b x = refl
      none false b x = refl

  pub told_by_pairs : sum_where max_teams (has teams) (λ t. sum_where t (λ o. has teams o && (has set o || has set t))
      (λ o. over (pair o t) most)) ≡ worst_gaps_with g teams slots most set
  unfolding worst_gaps_with
  told_by_pairs =
      sum_below_past g.teams max_teams (λ t. if has teams t then of_lower t else 0) rr.most
      (λ t past below. rw (has_beyond g.teams teams t of_teams past) refl) ∙
      sum_below_same g.teams _ _ (λ t below. same_of t (has teams t) refl)

-- what the rows of a schedule tell
module _ (g : Games) (rows : List (List ℕ)) (mask : List ℕ) (teams set slots most : ℕ) (rr : IsDoubleRoundRobin g)
    (of_teams : IsBelow g.teams teams) (of_slots : IsBelow (round_count g.teams) slots) (are : AreRowsOf g (has teams) rows)
    (masks : (r : ℕ) → get_or mask r 0 ≡ mask_in slots r) where
  pub one_gap : (o t : ℕ) → o < t → has teams o ≡ true → has teams t ≡ true →
      over (worst_apart mask (row_of rows o) (row_of rows t)) most ≡ worst_gap g (has slots) most o t
  one_gap o t lower in_o in_t =
      worst_gap_of_rows g most o t slots mask (row_of rows o) (row_of rows t) (omega (arith, rr.most)) of_slots (λ r. are o r in_o)
      (λ r. are t r in_t) masks

  pub told_by_rows : sum_where max_teams (has teams) (over_of_rows rows mask teams set most) ≡ worst_gaps_with g teams slots most set
  told_by_rows = told_by_pairs g teams set slots most (λ o t. worst_apart mask (row_of rows o) (row_of rows t)) rr of_teams one_gap

  -- nothing is over if the teams are near
  pub none_over : (spread : ℕ) → spread ≤ most →
      ((t o : ℕ) → has teams t ≡ true → has teams o ≡ true → worst_apart mask (row_of rows t) (row_of rows o) ≤ spread) →
      0 ≡ worst_gaps_with g teams slots most set
  unfolding worst_gaps_with
  none_over spread near further =
      sym (sum_below_zero g.teams _ (λ t in_t. sum_below_zero t _ (λ o lower.
      at o t lower (has set o || has set t) (has teams o) (has teams t) refl refl)))
    where
      at : (o t : ℕ) → o < t → (one a b : Bool) → has teams o ≡ a → has teams t ≡ b →
          (if (has teams o && has teams t) && one then worst_gap g (has slots) most o t else 0) ≡ 0
      at o t lower true true true in_o in_t =
          rw (in_o, in_t) (omega (arith, one_gap o t lower in_o in_t, near, further o t in_o in_t))
      at o t lower false true true in_o in_t = rw (in_o, in_t) refl
      at o t lower one true false in_o out = rw (in_o, out) refl
      at o t lower one false b out in_t = rw out refl
