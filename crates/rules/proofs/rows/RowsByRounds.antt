-- The teams of which games count, a row for each round, found by their own games or by those of the opponents.
use Rattle.std.proofs.Common.{◌≡◌, ◌≢◌, ℕ, zero, suc, ◌+◌, ◌-◌, ◌<◌, ◌≤◌, ◌&&◌, ◌||◌, ◌==◌, not, nat_lt, Bool, true, false, List, length, min, ◌*◌}
use Rattle.std.proofs.Common.{get_or, refl, sym, ◌∙◌, ap, subst, inl, inr, arith, get_or-set_other}
use Rattle.std.proofs.Math.ListN.{set}
use Rattle.std.proofs.lemmas.Grind.{get_or-set_at}
use Rattle.std.proofs.lemmas.List.{length-set}
use Rattle.std.proofs.Math.Bool.{or-false, and-false}
use Rattle.std.proofs.lemmas.Bool.{cases_eq, cases_lt, eq-eqb, ne_eqb, lt-ltb, false≢true, and_parts}
use Rattle.league.specs.Limits.{max_rounds}
use Rattle.league.specs.Sets.{has, IsBelow}
use Rattle.league.specs.within.Sets.{IsWithoutLowest}
use Rattle.league.specs.Sums.{sum_where, count_where, any_below}
use Rattle.league.specs.declared.rule.Side.{Side}
use Rattle.league.proofs.ForCallers.{has_beyond, others_kept, sum_where_same, count_where_same}
use Rattle.fixtures.specs.declared.game.Cell.{Cell}
use Rattle.fixtures.specs.Games.{Games, round_count, cell, IsCell, IsDoubleRoundRobin}
use Rattle.fixtures.proofs.ForCallers.{cell_is, is_cell, pair_swapped}
use Rattle.rules.specs.Deviations.{over, is_on_side, is_counted, games_in_window}
use Rattle.rules.specs.within.Walked.{IsRow}
use Rattle.rules.proofs.walks.Left.{IsLeft, gone, gone_none, gone_all, gone_before, gone_now, gone_same}

pub same_when : (a b : Bool) → (a ≡ true → b ≡ true) → (b ≡ true → a ≡ true) → a ≡ b
same_when true b there back = sym (there refl)
same_when false true there back = back refl
same_when false false there back = refl

-- a game is its opponent's too, on the other side
opponents_game : (g : Games) (rr : IsDoubleRoundRobin g) (t r : ℕ) → t < g.teams → r < round_count g.teams →
    cell g (cell g t r).opponent r ≡ record { opponent = t; home = not (cell g t r).home }
opponents_game g rr t r in_t in_r = by_home (cell g t r).opponent (cell g t r).home (is_cell g rr t r in_t in_r)
  where
    by_home : (o : ℕ) (home : Bool) → IsCell g t r (record { opponent = o; home = home }) →
        cell g o r ≡ record { opponent = t; home = not home }
    by_home o true is =
        cell_is g rr o r (record { opponent = t; home = false })
        (record { pair = pair_swapped g.teams t o is.pair; in_round = is.in_round })
    by_home o false is =
        cell_is g rr o r (record { opponent = t; home = true })
        (record { pair = pair_swapped g.teams t o is.pair; in_round = is.in_round })

-- a row has those of the teams that aren't left whose games count
abbrev pub IsOwnRow : Games → Side → ℕ → ℕ → ℕ → ℕ → ℕ → Type 0
IsOwnRow g side opponents all left r row = (t : ℕ) → has row t ≡ (gone all left t && is_counted g side (has opponents) t r)

pub own_more : (g : Games) (side : Side) (opponents n all left lowest rest r row new : ℕ) → IsLeft n all left → IsWithoutLowest left lowest rest →
    IsOwnRow g side opponents all left r row →
    ((t : ℕ) → has new t ≡ (has row t || (t == lowest && is_counted g side (has opponents) lowest r))) →
    IsOwnRow g side opponents all rest r new
own_more g side opponents n all left lowest rest r row new some taken is adds = λ t. elim (cases_eq t lowest) [
  | inl same ↦
      rw same
      (adds lowest ∙
      ap (λ b. b || (lowest == lowest && counts lowest))
      (is lowest ∙ ap (λ b. b && counts lowest) (gone_before n all left lowest rest some taken)) ∙
      ap (λ b. b && counts lowest) (eq-eqb lowest lowest refl) ∙
      sym (ap (λ b. b && counts lowest) (gone_now n all left lowest rest some taken)))
  | inr apart ↦
      adds t ∙ ap (λ b. has row t || (b && counts lowest)) (ne_eqb t lowest apart) ∙ or-false (has row t) ∙ is t ∙
      sym (ap (λ b. b && counts t) (gone_same n all left lowest rest some taken t apart))
]
  where
    counts : ℕ → Bool
    counts t = is_counted g side (has opponents) t r

-- a row has the teams whose games against those that aren't left count
abbrev pub IsGuestRow : Games → Side → ℕ → ℕ → ℕ → ℕ → Type 0
IsGuestRow g side all left r row = (t : ℕ) → t < g.teams → has row t ≡ is_counted g side (gone all left) t r

pub guests_none : (g : Games) (side : Side) (all left r row : ℕ) → left ≡ all → ((t : ℕ) → has row t ≡ false) →
    IsGuestRow g side all left r row
unfolding is_counted
guests_none g side all left r row same empty = λ t in_t.
    empty t ∙ sym (ap (λ b. is_on_side side (cell g t r).home && b) (gone_none all left (cell g t r).opponent same) ∙
    and-false (is_on_side side (cell g t r).home))

pub guests_more : (g : Games) (rr : IsDoubleRoundRobin g) (side : Side) (all left lowest rest r row new : ℕ) → r < round_count g.teams →
    lowest < g.teams → IsLeft g.teams all left → IsWithoutLowest left lowest rest → IsGuestRow g side all left r row →
    ((t : ℕ) → has new t ≡ (has row t || (is_on_side side (not (cell g lowest r).home) && t == (cell g lowest r).opponent))) →
    IsGuestRow g side all rest r new
unfolding is_counted
guests_more g rr side all left lowest rest r row new in_r in_lowest some taken is adds = λ t in_t. elim (cases_eq (cell g t r).opponent lowest) [
  | inl same ↦
      let game : cell g lowest r ≡ record { opponent = t; home = not (cell g t r).home } =
      ap (λ k. cell g k r) (sym same) ∙ opponents_game g rr t r in_t in_r in
      adds t ∙
      ap (λ b. b || (is_on_side side (not (cell g lowest r).home) && t == (cell g lowest r).opponent))
      (is t in_t ∙ ap (λ o. is_on_side side (cell g t r).home && gone all left o) same ∙
      ap (λ b. is_on_side side (cell g t r).home && b) (gone_before g.teams all left lowest rest some taken) ∙
      and-false (is_on_side side (cell g t r).home)) ∙
      ap (λ (c : Cell). is_on_side side (not c.home) && t == c.opponent) game ∙
      ap (λ b. is_on_side side (not (not (cell g t r).home)) && b) (eq-eqb t t refl) ∙
      ap (λ b. is_on_side side b && true) (twice (cell g t r).home) ∙
      sym (ap (λ o. is_on_side side (cell g t r).home && gone all rest o) same ∙
      ap (λ b. is_on_side side (cell g t r).home && b) (gone_now g.teams all left lowest rest some taken))
  | inr apart ↦
      adds t ∙
      ap (λ b. has row t || (is_on_side side (not (cell g lowest r).home) && b))
      (ne_eqb t (cell g lowest r).opponent (λ here. apart (ap (λ (c : Cell). c.opponent) (other_way t here)))) ∙
      ap (λ b. has row t || b) (and-false (is_on_side side (not (cell g lowest r).home))) ∙ or-false (has row t) ∙ is t in_t ∙
      sym (ap (λ b. is_on_side side (cell g t r).home && b) (gone_same g.teams all left lowest rest some taken (cell g t r).opponent apart))
]
  where
    twice : (b : Bool) → not (not b) ≡ b
    twice true = refl
    twice false = refl

    other_way : (t : ℕ) → t ≡ (cell g lowest r).opponent → cell g t r ≡ record { opponent = lowest; home = not (cell g lowest r).home }
    other_way t here = ap (λ k. cell g k r) here ∙ opponents_game g rr lowest r in_lowest in_r

pub guests_all : (g : Games) (side : Side) (all left r row : ℕ) → left ≡ 0 → IsGuestRow g side all left r row →
    (teams : ℕ) → IsBelow g.teams teams → IsRow g side all teams r row
unfolding is_counted
guests_all g side all left r row none is teams below = λ t in_teams. elim (cases_lt t g.teams) [
  | inl in_t ↦ is t in_t ∙ ap (λ b. is_on_side side (cell g t r).home && b) (gone_all all left (cell g t r).opponent none)
  | inr past ↦ absurd (false≢true (sym (has_beyond g.teams teams t below past) ∙ in_teams))
]

-- of opponents those count that are teams
pub row_in_teams : (g : Games) (rr : IsDoubleRoundRobin g) (side : Side) (whole some opponents teams r row : ℕ) → r < round_count g.teams →
    IsBelow g.teams teams → ((k : ℕ) → has whole k ≡ nat_lt k g.teams) → ((k : ℕ) → has some k ≡ (has whole k && has opponents k)) →
    IsRow g side some teams r row → IsRow g side opponents teams r row
unfolding is_counted
row_in_teams g rr side whole some opponents teams r row in_r below wholes are is = λ t in_teams. elim (cases_lt t g.teams) [
  | inl in_t ↦
      is t in_teams ∙
      ap (λ b. is_on_side side (cell g t r).home && b)
      (are (cell g t r).opponent ∙
      ap (λ b. b && has opponents (cell g t r).opponent)
      (wholes (cell g t r).opponent ∙ lt-ltb (cell g t r).opponent g.teams (is_cell g rr t r in_t in_r).pair.away_in))
  | inr past ↦ absurd (false≢true (sym (has_beyond g.teams teams t below past) ∙ in_teams))
]

-- four rows in a row are put into their places
module _ (IsAt : ℕ → ℕ → Type 0) (rows : List ℕ) (place first second third fourth : ℕ) (room : place + 3 < length rows)
    (of_first : IsAt place first) (of_second : IsAt (place + 1) second) (of_third : IsAt (place + 2) third)
    (of_fourth : IsAt (place + 3) fourth) where
  abbrev one : List ℕ
  one = set rows place first

  abbrev two : List ℕ
  two = set one (place + 1) second

  abbrev three : List ℕ
  three = set two (place + 2) third

  abbrev four : List ℕ
  four = set three (place + 3) fourth

  len_three : length three ≡ length rows
  len_three = length-set two (place + 2) third ∙ length-set one (place + 1) second ∙ length-set rows place first

  pub len_four : length four ≡ length rows
  len_four = length-set three (place + 3) fourth ∙ len_three

  put : (list : List ℕ) (at r row : ℕ) → at < length list → IsAt at row → (r ≢ at → IsAt r (get_or list r 0)) →
      IsAt r (get_or (set list at row) r 0)
  put list at r row in_list is others = elim (cases_eq r at) [
    | inl same ↦
        subst (IsAt r) (sym (get_or-set_at list at r row 0 same in_list)) (subst (λ (k : ℕ). IsAt k row) (sym same) is)
    | inr apart ↦ subst (IsAt r) (sym (get_or-set_other list at r row 0 apart)) (others apart)
  ]

  pub four_at : (r : ℕ) → (r ≢ place → r ≢ place + 1 → r ≢ place + 2 → r ≢ place + 3 → IsAt r (get_or rows r 0)) →
      IsAt r (get_or four r 0)
  four_at r others =
      put three (place + 3) r fourth (omega (arith, room, len_three)) of_fourth
      (λ not_fourth. put two (place + 2) r third
      (omega (arith, room, length-set one (place + 1) second, length-set rows place first)) of_third
      (λ not_third. put one (place + 1) r second (omega (arith, room, length-set rows place first)) of_second
      (λ not_second. put rows place r first (omega (arith, room)) of_first
      (λ not_first. others not_first not_second not_third not_fourth))))

-- a loop over blocks of four rounds has made the rows of those before its block
pub record HasMade (IsAt : ℕ → ℕ → Type 0) (season from block : ℕ) (old rows : List ℕ) : Type 0 where
  pub len : length rows ≡ max_rounds
  pub kept : (r : ℕ) → IsAt r (get_or old r 0) → IsAt r (get_or rows r 0)
  pub made : (r : ℕ) → from ≤ r → r < from + 4 * block → r < season → IsAt r (get_or rows r 0)

pub made_more : (IsAt : ℕ → ℕ → Type 0) (season from block place first second third fourth : ℕ) (old rows : List ℕ) → 4 ≤ season →
    season ≤ max_rounds → place ≡ min (from + 4 * block) (season - 4) → HasMade IsAt season from block old rows →
    IsAt place first → IsAt (place + 1) second → IsAt (place + 2) third → IsAt (place + 3) fourth →
    HasMade IsAt season from (block + 1) old
    (set (set (set (set rows place first) (place + 1) second) (place + 2) third) (place + 3) fourth)
made_more IsAt season from block place first second third fourth old rows least most here so_far of_first of_second of_third of_fourth = record {
  len = len_four IsAt rows place first second third fourth room of_first of_second of_third of_fourth ∙ so_far.len;
  kept = λ r is. new r (λ not_first not_second not_third not_fourth. so_far.kept r is);
  made = λ r ge lt in_season. new r (λ not_first not_second not_third not_fourth.
      so_far.made r ge (omega (arith, ge, lt, in_season, here, not_first, not_second, not_third, not_fourth)) in_season);
}
  where
    room : place + 3 < length rows
    room = omega (arith, so_far.len, here, least, most)

    new : (r : ℕ) → (r ≢ place → r ≢ place + 1 → r ≢ place + 2 → r ≢ place + 3 → IsAt r (get_or rows r 0)) →
        IsAt r (get_or (set (set (set (set rows place first) (place + 1) second) (place + 2) third) (place + 3) fourth) r 0)
    new = four_at IsAt rows place first second third fourth room of_first of_second of_third of_fourth

-- a loop over rounds has made the rows of the rounds less than a window away from those that aren't left, and of those before some round that
-- are so near to those left
pub record HasMadeNear (IsAt : ℕ → ℕ → Type 0) (season all left window past : ℕ) (rows : List ℕ) : Type 0 where
  pub below : IsBelow season left
  pub len : length rows ≡ max_rounds
  pub made : (r c : ℕ) → r < season → has all c ≡ true → has left c ≡ false → r < c + window → c < r + window → IsAt r (get_or rows r 0)
  pub before : (r c : ℕ) → r < season → r < past → has left c ≡ true → c < r + window → IsAt r (get_or rows r 0)

pub near_none : (IsAt : ℕ → ℕ → Type 0) (season all left window : ℕ) (rows : List ℕ) → IsBelow season left → left ≡ all →
    length rows ≡ max_rounds → HasMadeNear IsAt season all left window 0 rows
near_none IsAt season all left window rows below same len = record {
  below = below;
  len = len;
  made = λ r c in_r here gone near_c near_r. absurd (false≢true (sym gone ∙ ap (λ s. has s c) same ∙ here));
  before = λ r c in_r none here near_r. absurd (omega (arith, none));
}

pub near_more : (IsAt : ℕ → ℕ → Type 0) (season all left lowest rest window from past next : ℕ) (rows new : List ℕ) →
    HasMadeNear IsAt season all left window past rows → IsWithoutLowest left lowest rest → length new ≡ max_rounds →
    ((r : ℕ) → IsAt r (get_or rows r 0) → IsAt r (get_or new r 0)) →
    ((r : ℕ) → from ≤ r → r < next → r < season → IsAt r (get_or new r 0)) →
    ((r : ℕ) → lowest < r + window → past ≤ r → from ≤ r) → ((r : ℕ) → r < season → r < lowest + window → r < next) →
    HasMadeNear IsAt season all rest window next new
near_more IsAt season all left lowest rest window from past next rows new so_far taken len keeps made from_is next_is = record {
  below = omega (arith, so_far.below, taken.fewer);
  len = len;
  made = λ r c in_r here gone near_c near_r. elim (cases_eq c lowest) [
    | inl same ↦ upto r in_r (next_is r in_r (omega arith)) (omega arith)
    | inr other ↦ keeps r (so_far.made r c in_r here (sym (others_kept left lowest rest c taken other) ∙ gone) near_c near_r)
  ];
  before = λ r c in_r in_next here near_r. upto r in_r in_next (omega (arith, least c here, near_r));
}
  where
    upto : (r : ℕ) → r < season → r < next → lowest < r + window → IsAt r (get_or new r 0)
    upto r in_r in_next near = elim (cases_lt r past) [
      | inl earlier ↦ keeps r (so_far.before r lowest in_r earlier taken.in_set near)
      | inr later ↦ made r (from_is r near later) in_next in_r
    ]

    least : (c : ℕ) → has rest c ≡ true → lowest ≤ c
    least c here = elim (cases_lt c lowest) [
      | inl below ↦ absurd (false≢true (sym (taken.is_lowest c below) ∙ (and_parts (has left c) (not (c == lowest)) (sym (taken.others c) ∙ here)).0))
      | inr above ↦ above
    ]

-- one that passes
pub any_one : (n : ℕ) (test : ℕ → Bool) → any_below n test ≡ true → (k : ℕ) × (k < n) × (test k ≡ true)
unfolding any_below
any_one zero test found = absurd (false≢true found)
any_one (suc n) test found = at (any_one n test) (any_below n test) (test n) refl refl found
  where
    at : (any_below n test ≡ true → (k : ℕ) × (k < n) × (test k ≡ true)) → (a b : Bool) → any_below n test ≡ a → test n ≡ b →
        (a || b) ≡ true → (k : ℕ) × (k < suc n) × (test k ≡ true)
    at one true b earlier last either = let found = one earlier in (found.0, omega (arith, found.1), found.2)
    at one false b earlier last either = (n, omega arith, last ∙ either)

-- the windows of a team in rows that are whole near some rounds, where each window has one of these
pub windows_of_rows : (g : Games) (side : Side) (opponents rounds : ℕ → Bool) (rows : List ℕ) (window most t starts : ℕ) →
    ((s : ℕ) → has starts s ≡ true → any_below window (λ k. rounds (s + k)) ≡ true) →
    ((r c : ℕ) → r < round_count g.teams → c < round_count g.teams → rounds c ≡ true → r < c + window → c < r + window →
    has (get_or rows r 0) t ≡ is_counted g side opponents t r) →
    sum_where (round_count g.teams + 1 - window) (has starts)
    (λ first. over (count_where window (λ k. has (get_or rows (first + k) 0) t)) most) ≡
    sum_where (round_count g.teams + 1 - window) (has starts) (λ first. over (games_in_window g side opponents window t first) most)
unfolding games_in_window
windows_of_rows g side opponents rounds rows window most t starts meets whole =
    sum_where_same (round_count g.teams + 1 - window) (has starts) (has starts)
    (λ first. over (count_where window (λ k. has (get_or rows (first + k) 0) t)) most)
    (λ first. over (games_in_window g side opponents window t first) most)
    (λ s below. refl)
    (λ s below here.
    let one = any_one window (λ k. rounds (s + k)) (meets s here) in
    ap (λ n. over n most)
    (count_where_same window (λ k. has (get_or rows (s + k) 0) t) (λ k. is_counted g side opponents t (s + k))
    (λ k k_below.
    whole (s + k) (s + one.0) (omega arith) (omega (arith, one.1)) one.2 (omega (arith, one.1)) (omega (arith, one.1)))))
