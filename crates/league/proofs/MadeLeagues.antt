-- The leagues that are made are leagues.
use Rattle.std.proofs.Common.{◌≡◌, ℕ, zero, suc, ◌+◌, ◌%◌, ◌<◌, ◌≤◌, ◌&&◌, ◌==◌, nat_le, List, [], ◌∷◌, length, map, true, false, refl}
use Rattle.std.proofs.Common.{sym, ◌∙◌, zero-add, arith}
use Rattle.std.proofs.lemmas.Bool.{agree_below_at, and_from, and_parts, leb-true}
use Rattle.std.proofs.lemmas.Bool.Decides.{nat_tests}
use Rattle.std.proofs.lemmas.List.FromFn.{get_or-map-range_with_len, length-map-range_with_len}
use Rattle.std.specs.Fmt.{digits}
use Rattle.std.specs.List.{list_all, range_with_len}
use Rattle.league.specs.declared.made.Layout.{Layout}
use Rattle.league.specs.declared.made.Layout.TheVariants.{Circular, Constant}
use Rattle.league.specs.declared.rule.Rule.{Rule}
use Rattle.league.specs.Checks.{distance_of, is_team_count, IsDistanceTable}
use Rattle.league.specs.Labels.{LabelData, no_labels}
use Rattle.league.specs.League.{league_data, IsLeague}
use Rattle.league.specs.Limits.{min_teams, max_teams, max_distance, default_at_most, default_hard_weight}
use Rattle.league.specs.Names.{is_team_name}
use Rattle.league.specs.Made.{apart, made_name, made_names, made_row, made_rows}
use Rattle.league.specs.declared.origins.Start.TheVariants.{Berger}
use Rattle.league.specs.Origins.{origin_at}
use Rattle.league.proofs.Beginnings.{origin_for_none}
use Rattle.league.proofs.Tables.{HasColumns, IsDistanceTable-from_within}

columns : (layout : Layout) (n : ℕ) (places : List ℕ) → HasColumns n (map (made_row layout n) places)
columns layout n [] = tt
columns layout n (a ∷ places) = (length-map-range_with_len (apart layout n a) 0 n, columns layout n places)

distance_of-made_rows : (layout : Layout) (n a b : ℕ) → a < n → b < n
    → distance_of (made_rows layout n) a b ≡ apart layout n a b
distance_of-made_rows layout n a b a_below b_below =
    rw (get_or-map-range_with_len (made_row layout n) 0 n a a [] a_below (zero-add a))
    (get_or-map-range_with_len (apart layout n a) 0 n b b 0 b_below (zero-add b))

near : (layout : Layout) (n a b : ℕ) → n ≤ max_teams → apart layout n a b ≤ max_distance
unfolding apart
near Circular n a b most = omega arith
near Constant n a b most = grind (arith, nat_tests)

diagonal : (layout : Layout) (n a : ℕ) → apart layout n a a ≡ 0
unfolding apart
diagonal Circular n a = omega arith
diagonal Constant n a = grind (arith, nat_tests)

symmetric : (layout : Layout) (n a b : ℕ) → apart layout n a b ≡ apart layout n b a
unfolding apart
symmetric Circular n a b = omega arith
symmetric Constant n a b = grind (arith, nat_tests)

most_teams : (n : ℕ) → is_team_count n ≡ true → n ≤ max_teams
most_teams n counted =
    leb-true n max_teams (and_parts (nat_le min_teams n) (nat_le n max_teams)
    (and_parts (n % 2 == 0) (nat_le min_teams n && nat_le n max_teams) counted).1).1

IsDistanceTable-made_rows : (layout : Layout) (n : ℕ) → is_team_count n ≡ true → IsDistanceTable n (made_rows layout n)
IsDistanceTable-made_rows layout n counted =
    IsDistanceTable-from_within n (made_rows layout n) counted (length-map-range_with_len (made_row layout n) 0 n)
    (columns layout n (range_with_len 0 n))
    (λ a b a_below b_below. rw (distance_of-made_rows layout n a b a_below b_below) (near layout n a b (most_teams n counted)))
    (λ a below. distance_of-made_rows layout n a a below below ∙ diagonal layout n a)
    (λ a b a_below b_below. distance_of-made_rows layout n a b a_below b_below ∙ symmetric layout n a b
    ∙ sym (distance_of-made_rows layout n b a b_below a_below))

made_name_passes : (team : ℕ) → team < max_teams → is_team_name (made_name team) ≡ true
unfolding digits
made_name_passes team below = agree_below_at (λ t. is_team_name (made_name t)) (λ t. true) max_teams team refl below

made_names_pass : (count from : ℕ) → from + count ≤ max_teams
    → list_all is_team_name (map made_name (range_with_len from count)) ≡ true
made_names_pass zero from most = refl
made_names_pass (suc count) from most =
    and_from (is_team_name (made_name from)) (list_all is_team_name (map made_name (range_with_len (from + 1) count)))
    (made_name_passes from (omega arith)) (made_names_pass count (from + 1) (omega arith))

IsLeague-made : (layout : Layout) (n : ℕ) → is_team_count n ≡ true
    → IsLeague (league_data (made_names n) (made_rows layout n) default_at_most default_hard_weight [] (origin_at Berger) false false no_labels)
IsLeague-made layout n counted = record {
  table = rw (length-map-range_with_len made_name 0 n) (IsDistanceTable-made_rows layout n counted);
  at_most_least = omega arith;
  at_most_most = omega arith;
  weight_least = omega arith;
  weight_most = omega arith;
  names = made_names_pass n 0 (omega (arith, most_teams n counted));
  rule_count = omega arith;
  rules = tt;
  origin = origin_for_none (length (made_names n)) Berger tt;
  labels = record { title = refl; short_names = refl; round_texts = refl };
}

pub IsLeague-as_made : (layout : Layout) (n : ℕ) (names distances : List (List ℕ)) (rules : List Rule) (labels : LabelData)
    → is_team_count n ≡ true
    → names ≡ made_names n → distances ≡ made_rows layout n → rules ≡ [] → labels ≡ no_labels
    → IsLeague (league_data names distances default_at_most default_hard_weight rules (origin_at Berger) false false labels)
IsLeague-as_made layout n names distances rules labels counted same_names same_distances no_rules none =
    rw (same_names, same_distances, no_rules, none) (IsLeague-made layout n counted)
