-- Tables of gaps: how teams come into one and leave it, and what its gaps tell of FA2.
use Rattle.std.proofs.Common.{◌≡◌, ◌≢◌, ℕ, ◌+◌, ◌*◌, ◌<◌, ◌≤◌, ◌&&◌, ◌||◌, ◌==◌, ◌⊎◌, not, true, false, min, max, List, length, get_or}
use Rattle.std.proofs.Common.{refl, sym, subst, ◌∙◌, ap, inl, inr, arith, get_or-set_other}
use Rattle.std.proofs.Math.ListN.{set, replicate, get_or-eq_default}
use Rattle.std.proofs.lemmas.Grind.{get_or-set_at}
use Rattle.std.proofs.lemmas.List.{get_or_default, get_or-replicate, length-replicate, length-set}
use Rattle.std.proofs.lemmas.Bool.{cases_eq, cases_lt, cond-false, eq-eqb, ne_eqb, and_parts, not-true, false≢true}
use Rattle.league.specs.Limits.{max_teams}
use Rattle.league.specs.Sets.{has, with_number, IsBelow}
use Rattle.league.specs.within.Sets.{IsWithoutLowest}
use Rattle.league.specs.Sums.{sum_where}
use Rattle.league.proofs.ForCallers.{has_beyond, has_empty, has_with_number, lowest_gone, others_kept}
use Rattle.fixtures.specs.Games.{Games, round_count, IsDoubleRoundRobin}
use Rattle.rules.specs.Deviations.{over}
use Rattle.rules.specs.Parts.{worst_gaps_with}
use Rattle.rules.specs.within.GapTables.{AreKnownGaps, IsGapTable, gap_at, over_of_gaps, table_count}
use Rattle.rules.specs.within.HomeTables.{AreRowsOf, IsHomeTable}
use Rattle.rules.specs.within.Walked.{mask_in, row_length, row_of, worst_apart}
use Rattle.rules.specs.declared.gap_table.GapTable.{GapTable}
use Rattle.rules.specs.declared.home_table.HomeTable.{HomeTable}
use Rattle.rules.specs.declared.known_gaps.KnownGaps.{KnownGaps}
use Rattle.rules.proofs.rows.HomeTables.{one_gap, told_by_pairs}

-- a table of no teams
pub no_teams : (rows : List (List ℕ)) (table : GapTable) → length table.gaps ≡ max_teams * max_teams → table.teams ≡ 0 →
    ((r : ℕ) → get_or table.mask r 0 ≡ mask_in table.slots r) → IsGapTable rows table
no_teams rows table len none masks = record {
  len = len;
  below = rw none (omega arith);
  mask = masks;
  gaps = λ i j lower in_i in_j. absurd (false≢true (sym (has_empty i) ∙ ap (λ s. has s i) (sym none) ∙ in_i));
}

-- the first table
pub no_slots : (rows : List (List ℕ)) (slots teams : ℕ) → slots ≡ 0 → teams ≡ 0 →
    IsGapTable rows (record { slots = slots; mask = replicate row_length 0; teams = teams; gaps = replicate (max_teams * max_teams) 0 })
no_slots rows slots teams no_slot none =
    no_teams rows _ (length-replicate {A = ℕ} (max_teams * max_teams) 0) none
    (λ r. elim (cases_lt r row_length) [
      | inl in_row ↦ get_or-replicate row_length r 0 0 in_row ∙ sym (nothing r)
      | inr past ↦
          let beyond : length (replicate {A = ℕ} row_length 0) ≤ r = omega (arith, past, length-replicate {A = ℕ} row_length 0) in
          get_or-eq_default (replicate {A = ℕ} row_length 0) 0 beyond ∙ sym (nothing r)
    ])
  where
    nothing : (r : ℕ) → mask_in slots r ≡ 0
    nothing r = cond-false {A = ℕ} (has slots r) 255 0 (ap (λ s. has s r) no_slot ∙ has_empty r)

-- the number of a pair is read where it was put, and those of the others are as before
module _ (gaps : List ℕ) (low high index value : ℕ) (len : length gaps ≡ max_teams * max_teams) (in_low : low < high)
    (in_high : high < max_teams) (here : index ≡ high * max_teams + low) where
  at_pair : gap_at (set gaps index value) low high ≡ value
  at_pair = get_or-set_at gaps index (high * max_teams + low) value 0 (sym here) (omega (arith, len, here, in_low, in_high))

  at_other : (i j : ℕ) → i < j → j < max_teams → (i ≢ low) ⊎ (j ≢ high) → gap_at (set gaps index value) i j ≡ gap_at gaps i j
  at_other i j lower in_j apart = get_or-set_other gaps index (j * max_teams + i) value 0 (differ apart)
    where
      differ : (i ≢ low) ⊎ (j ≢ high) → j * max_teams + i ≢ index
      differ (inl other) same = elim (cases_eq j high) [
        | inl row ↦ other (omega (arith, same, here, row))
        | inr rows ↦ rows (omega (arith, same, here, lower, in_j, in_low, in_high))
      ]
      differ (inr other) same = other (omega (arith, same, here, lower, in_j, in_low, in_high))

-- the pairs of a team with those of the table's teams that aren't left are put into it
pub record HasAdded (rows : List (List ℕ)) (before table : GapTable) (team left : ℕ) : Type 0 where
  pub below : IsBelow max_teams left
  pub slots : table.slots ≡ before.slots
  pub teams : table.teams ≡ before.teams
  pub among : (o : ℕ) → has left o ≡ true → has table.teams o ≡ true
  pub is : IsGapTable rows table
  pub lower : (o : ℕ) → o < team → has table.teams o ≡ true → has left o ≡ false →
      gap_at table.gaps o team ≡ worst_apart table.mask (row_of rows o) (row_of rows team)
  pub higher : (o : ℕ) → team < o → has table.teams o ≡ true → has left o ≡ false →
      gap_at table.gaps team o ≡ worst_apart table.mask (row_of rows team) (row_of rows o)

pub added_none : (rows : List (List ℕ)) (table : GapTable) (team left : ℕ) → IsGapTable rows table → left ≡ table.teams →
    HasAdded rows table table team left
added_none rows table team left is whole = record {
  below = rw whole is.below;
  slots = refl;
  teams = refl;
  among = λ o in_left. ap (λ s. has s o) (sym whole) ∙ in_left;
  is = is;
  lower = λ o lower in_teams gone. absurd (false≢true (sym gone ∙ ap (λ s. has s o) whole ∙ in_teams));
  higher = λ o higher in_teams gone. absurd (false≢true (sym gone ∙ ap (λ s. has s o) whole ∙ in_teams));
}

-- one pair more
module _ (rows : List (List ℕ)) (before table : GapTable) (team left other rest low high index value : ℕ) (in_table : team < max_teams)
    (so_far : HasAdded rows before table team left) (taken : IsWithoutLowest left other rest) (lacks : has before.teams team ≡ false)
    (in_other : other < max_teams) (low_is : low ≡ min other team) (high_is : high ≡ max other team)
    (here : index ≡ high * max_teams + low) (apart : value ≡ worst_apart table.mask (row_of rows low) (row_of rows high)) where
  new : has table.teams team ≡ false
  new = ap (λ s. has s team) so_far.teams ∙ lacks

  in_teams : has table.teams other ≡ true
  in_teams = so_far.among other taken.in_set

  distinct : other ≢ team
  distinct same = false≢true (sym new ∙ ap (has table.teams) (sym same) ∙ in_teams)

  pair_lower : low < high
  pair_lower = elim (cases_lt other team) [
    | inl lt ↦ omega (arith, low_is, high_is, lt)
    | inr ge ↦ elim (cases_eq other team) [ inl same ↦ absurd (distinct same) | inr diff ↦ omega (arith, low_is, high_is, ge, diff) ]
  ]

  high_in : high < max_teams
  high_in = omega (arith, high_is, in_table, in_other)

  kept : (i j : ℕ) → i < j → j < max_teams → (i ≢ low) ⊎ (j ≢ high) → gap_at (set table.gaps index value) i j ≡ gap_at table.gaps i j
  kept = at_other table.gaps low high index value so_far.is.len pair_lower high_in here

  put : gap_at (set table.gaps index value) low high ≡ worst_apart table.mask (row_of rows low) (row_of rows high)
  put = at_pair table.gaps low high index value so_far.is.len pair_lower high_in here ∙ apart

  -- a pair of teams of the table isn't the team's
  old_pair : (i j : ℕ) → has table.teams i ≡ true → has table.teams j ≡ true → (i ≢ low) ⊎ (j ≢ high)
  old_pair i j in_i in_j = elim (cases_lt other team) [
    | inl lt ↦ inr (λ same. false≢true (sym new ∙ ap (has table.teams) (is_high lt same) ∙ in_j))
    | inr ge ↦ inl (λ same. false≢true (sym new ∙ ap (has table.teams) (is_low ge same) ∙ in_i))
  ]
    where
      is_high : other < team → j ≡ high → team ≡ j
      is_high lt same = omega (arith, same, high_is, lt)

      is_low : team ≤ other → i ≡ low → team ≡ i
      is_low ge same = omega (arith, same, low_is, ge)

  in_max : (t : ℕ) → has table.teams t ≡ true → t < max_teams
  in_max t is = elim (cases_lt t max_teams) [
    | inl lt ↦ lt
    | inr past ↦ absurd (false≢true (sym (has_beyond max_teams table.teams t so_far.is.below past) ∙ is))
  ]

  pub added_more : HasAdded rows before (record table { gaps = set table.gaps index value }) team rest
  added_more = record {
    below = omega (arith, so_far.below, taken.fewer);
    slots = so_far.slots;
    teams = so_far.teams;
    among = λ o in_rest. so_far.among o (elim (cases_eq o other) [
      | inl same ↦ absurd (false≢true (sym (lowest_gone left other rest taken) ∙ ap (has rest) (sym same) ∙ in_rest))
      | inr apart_from ↦ sym (others_kept left other rest o taken apart_from) ∙ in_rest
    ]);
    is = record {
      len = length-set table.gaps index value ∙ so_far.is.len;
      below = so_far.is.below;
      mask = so_far.is.mask;
      gaps = λ i j lower in_i in_j. kept i j lower (in_max j in_j) (old_pair i j in_i in_j) ∙ so_far.is.gaps i j lower in_i in_j;
    };
    lower = λ o lower in_o gone. elim (cases_eq o other) [
      | inl same ↦
          let low_here : low ≡ o = omega (arith, low_is, same, lower) in
          let high_here : high ≡ team = omega (arith, high_is, same, lower) in
          subst (λ (k : ℕ). gap_at (set table.gaps index value) k team ≡ worst_apart table.mask (row_of rows k) (row_of rows team)) low_here
          (subst (λ (k : ℕ). gap_at (set table.gaps index value) low k ≡ worst_apart table.mask (row_of rows low) (row_of rows k)) high_here put)
      | inr other_one ↦
          kept o team lower in_table (elsewhere_low o other_one lower) ∙
          so_far.lower o lower in_o (sym (others_kept left other rest o taken other_one) ∙ gone)
    ];
    higher = λ o higher in_o gone. elim (cases_eq o other) [
      | inl same ↦
          let low_here : low ≡ team = omega (arith, low_is, same, higher) in
          let high_here : high ≡ o = omega (arith, high_is, same, higher) in
          subst (λ (k : ℕ). gap_at (set table.gaps index value) k o ≡ worst_apart table.mask (row_of rows k) (row_of rows o)) low_here
          (subst (λ (k : ℕ). gap_at (set table.gaps index value) low k ≡ worst_apart table.mask (row_of rows low) (row_of rows k)) high_here put)
      | inr other_one ↦
          kept team o higher (in_max o in_o) (elsewhere_high o other_one higher) ∙
          so_far.higher o higher in_o (sym (others_kept left other rest o taken other_one) ∙ gone)
    ];
  }
    where
      elsewhere_low : (o : ℕ) → o ≢ other → o < team → (o ≢ low) ⊎ (team ≢ high)
      elsewhere_low o other_one lower = elim (cases_lt other team) [
        | inl lt ↦ inl (λ same. other_one (omega (arith, same, low_is, lt)))
        | inr ge ↦ inl (λ same. other_one (absurd (omega (arith, same, low_is, ge, lower))))
      ]

      elsewhere_high : (o : ℕ) → o ≢ other → team < o → (team ≢ low) ⊎ (o ≢ high)
      elsewhere_high o other_one higher = elim (cases_lt other team) [
        | inl lt ↦ inr (λ same. other_one (absurd (omega (arith, same, high_is, lt, higher))))
        | inr ge ↦ inr (λ same. other_one (omega (arith, same, high_is, ge)))
      ]

-- the team is one of the table's
pub added_all : (rows : List (List ℕ)) (before table : GapTable) (team left more : ℕ) → left ≡ 0 → team < max_teams →
    HasAdded rows before table team left → IsBelow max_teams more → ((t : ℕ) → has more t ≡ (t == team || has table.teams t)) →
    IsGapTable rows (record table { teams = more })
added_all rows before table team left more none in_table so_far below members = record {
  len = so_far.is.len;
  below = below;
  mask = so_far.is.mask;
  gaps = λ i j lower in_i in_j. pair i j lower (one_of i in_i) (one_of j in_j);
}
  where
    gone : (o : ℕ) → has left o ≡ false
    gone o = ap (λ s. has s o) none ∙ has_empty o

    one_of : (t : ℕ) → has more t ≡ true → (t ≡ team) ⊎ (has table.teams t ≡ true)
    one_of t is = elim (cases_eq t team) [
      | inl same ↦ inl same
      | inr apart ↦ inr (ap (λ b. b || has table.teams t) (sym (ne_eqb t team apart)) ∙ sym (members t) ∙ is)
    ]

    pair : (i j : ℕ) → i < j → (i ≡ team) ⊎ (has table.teams i ≡ true) → (j ≡ team) ⊎ (has table.teams j ≡ true) →
        gap_at table.gaps i j ≡ worst_apart table.mask (row_of rows i) (row_of rows j)
    pair i j lower (inl first) (inl second) = absurd (omega (arith, lower, first, second))
    pair i j lower (inl first) (inr second) =
        subst (λ (k : ℕ). gap_at table.gaps k j ≡ worst_apart table.mask (row_of rows k) (row_of rows j)) (sym first)
        (so_far.higher j (omega (arith, lower, first)) second (gone j))
    pair i j lower (inr first) (inl second) =
        subst (λ (k : ℕ). gap_at table.gaps i k ≡ worst_apart table.mask (row_of rows i) (row_of rows k)) (sym second)
        (so_far.lower i (omega (arith, lower, second)) first (gone i))
    pair i j lower (inr first) (inr second) = so_far.is.gaps i j lower first second

-- in a loop over teams that a table lacks it has those of them that aren't left
pub lacks_left : (left team rest old more t : ℕ) → IsWithoutLowest left team rest → more ≡ with_number old team →
    (has left t ≡ true → has old t ≡ false) → has rest t ≡ true → has more t ≡ false
lacks_left left team rest old more t taken is lacks in_rest = elim (cases_eq t team) [
  | inl same ↦ absurd (false≢true (sym (lowest_gone left team rest taken) ∙ ap (has rest) (sym same) ∙ in_rest))
  | inr apart ↦
      ap (λ s. has s t) is ∙ has_with_number old team t ∙ ap (λ b. b || has old t) (ne_eqb t team apart) ∙
      lacks (sym (others_kept left team rest t taken apart) ∙ in_rest)
]

pub has_others : (left team rest old more t : ℕ) → IsWithoutLowest left team rest → more ≡ with_number old team →
    (has left t ≡ false → has old t ≡ true) → has rest t ≡ false → has more t ≡ true
has_others left team rest old more t taken is has_old gone = elim (cases_eq t team) [
  | inl same ↦ ap (λ s. has s t) is ∙ has_with_number old team t ∙ ap (λ b. b || has old t) (eq-eqb t team same)
  | inr apart ↦
      ap (λ s. has s t) is ∙ has_with_number old team t ∙ ap (λ b. b || has old t) (ne_eqb t team apart) ∙
      has_old (sym (others_kept left team rest t taken apart) ∙ gone)
]

-- teams that leave the table may have other rows
pub left_table : (old new : List (List ℕ)) (table : GapTable) (flipped rest : ℕ) →
    ((t : ℕ) → has flipped t ≡ false → row_of new t ≡ row_of old t) → ((t : ℕ) → has rest t ≡ (has table.teams t && not (has flipped t))) →
    IsBelow max_teams rest → IsGapTable old table → IsGapTable new (record table { teams = rest })
left_table old new table flipped rest others members below is = record {
  len = is.len;
  below = below;
  mask = is.mask;
  gaps = λ i j lower in_i in_j.
      let of_i = and_parts (has table.teams i) (not (has flipped i)) (sym (members i) ∙ in_i) in
      let of_j = and_parts (has table.teams j) (not (has flipped j)) (sym (members j) ∙ in_j) in
      rw (others i (not-true _ of_i.1), others j (not-true _ of_j.1)) (is.gaps i j lower of_i.0 of_j.0);
}

-- what is known with one table in another's place
pub with_table : (known : KnownGaps) (place : ℕ) (table : GapTable) → AreKnownGaps known → place < table_count →
    IsGapTable known.homes.rows table → AreKnownGaps (record { homes = known.homes; tables = set known.tables place table })
with_table known place table are in_place is = record {
  homes = are.homes;
  len = length-set known.tables place table ∙ are.len;
  tables = λ k d below. elim (cases_eq k place) [
    | inl same ↦
        subst (IsGapTable known.homes.rows)
        (sym (get_or-set_at known.tables place k table d same (omega (arith, are.len, below)))) is
    | inr apart ↦
        subst (IsGapTable known.homes.rows) (sym (get_or-set_other known.tables place k table d apart)) (are.tables k d below)
  ];
}

-- In a loop over the tables those before a place have lost the teams whose rows are new, and the others are as they were.
pub record HaveLeft (old : List (List ℕ)) (before known : KnownGaps) (place : ℕ) : Type 0 where
  pub homes : IsHomeTable known.homes
  pub len : length known.tables ≡ table_count
  pub slots : (k : ℕ) (d : GapTable) → (get_or known.tables k d).slots ≡ (get_or before.tables k d).slots
  pub done : (k : ℕ) (d : GapTable) → k < place → IsGapTable known.homes.rows (get_or known.tables k d)
  pub left : (k : ℕ) (d : GapTable) → place ≤ k → k < table_count → IsGapTable old (get_or known.tables k d)

pub left_none : (before : KnownGaps) (homes : HomeTable) → AreKnownGaps before → IsHomeTable homes →
    HaveLeft before.homes.rows before (record { homes = homes; tables = before.tables }) 0
left_none before homes are is = record {
  homes = is;
  len = are.len;
  slots = λ k d. refl;
  done = λ k d lt. absurd (omega (arith, lt));
  left = λ k d ge in_tables. are.tables k d in_tables;
}

pub left_all : (old : List (List ℕ)) (before known : KnownGaps) (place : ℕ) → table_count ≤ place → HaveLeft old before known place →
    AreKnownGaps known
left_all old before known place past so_far = record {
  homes = so_far.homes;
  len = so_far.len;
  tables = λ k d below. so_far.done k d (omega (arith, below, past));
}

pub left_more : (old : List (List ℕ)) (before known : KnownGaps) (place flipped rest : ℕ) (d : GapTable) →
    HaveLeft old before known place → place < table_count →
    ((t : ℕ) → has flipped t ≡ false → row_of known.homes.rows t ≡ row_of old t) →
    ((t : ℕ) → has rest t ≡ (has (get_or known.tables place d).teams t && not (has flipped t))) →
    IsBelow max_teams rest →
    HaveLeft old before
    (record { homes = known.homes; tables = set known.tables place (record (get_or known.tables place d) { teams = rest }) }) (place + 1)
left_more old before known place flipped rest d so_far in_place others members below = record {
  homes = so_far.homes;
  len = length-set known.tables place new ∙ so_far.len;
  slots = λ k e. elim (cases_eq k place) [
    | inl same ↦ elim (cases_lt k table_count) [
      | inl in_tables ↦
          ap (λ (t : GapTable). t.slots) (get_or-set_at known.tables place k new e same (omega (arith, so_far.len, in_tables))) ∙
          ap (λ (t : GapTable). t.slots) (get_or_default known.tables place d e (omega (arith, so_far.len, in_place))) ∙
          ap (λ (n : ℕ). (get_or known.tables n e).slots) (sym same) ∙ so_far.slots k e
      | inr past ↦ absurd (omega (arith, past, same, in_place))
    ]
    | inr apart ↦ ap (λ (t : GapTable). t.slots) (get_or-set_other known.tables place k new e apart) ∙ so_far.slots k e
  ];
  done = λ k e lt. elim (cases_eq k place) [
    | inl same ↦
        subst (IsGapTable known.homes.rows)
        (sym (get_or-set_at known.tables place k new e same (omega (arith, so_far.len, same, in_place))))
        (left_table old known.homes.rows (get_or known.tables place d) flipped rest others members below
        (so_far.left place d (omega arith) in_place))
    | inr apart ↦
        subst (IsGapTable known.homes.rows) (sym (get_or-set_other known.tables place k new e apart))
        (so_far.done k e (omega (arith, lt, apart)))
  ];
  left = λ k e ge in_tables.
      subst (IsGapTable old) (sym (get_or-set_other known.tables place k new e (omega (arith, ge))))
      (so_far.left k e (omega (arith, ge)) in_tables);
}
  where
    new : GapTable
    new = record (get_or known.tables place d) { teams = rest }

-- what the gaps of a schedule tell
pub told_by_gaps : (g : Games) (rows : List (List ℕ)) (table : GapTable) (teams set slots most : ℕ) → IsDoubleRoundRobin g →
    IsBelow g.teams teams → IsBelow (round_count g.teams) slots → AreRowsOf g (has teams) rows → IsGapTable rows table →
    table.slots ≡ slots → ((t : ℕ) → has teams t ≡ true → has table.teams t ≡ true) →
    sum_where max_teams (has teams) (over_of_gaps table.gaps teams set most) ≡ worst_gaps_with g teams slots most set
told_by_gaps g rows table teams set slots most rr of_teams of_slots are is same_slots in_table =
    told_by_pairs g teams set slots most (gap_at table.gaps) rr of_teams
    (λ o t lower in_o in_t. ap (λ (n : ℕ). over n most) (is.gaps o t lower (in_table o in_o) (in_table t in_t)) ∙
    one_gap g rows table.mask teams set slots most rr of_teams of_slots are (λ r. is.mask r ∙ ap (λ s. mask_in s r) same_slots) o t lower in_o in_t)

-- the first tables
pub first_known : (homes : HomeTable) (table : GapTable) → IsHomeTable homes → IsGapTable homes.rows table →
    AreKnownGaps (record { homes = homes; tables = replicate table_count table })
first_known homes table is empty = record {
  homes = is;
  len = length-replicate table_count table;
  tables = λ k d below. subst (IsGapTable homes.rows) (sym (get_or-replicate table_count k table d below)) empty;
}
