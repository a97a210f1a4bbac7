-- The league of a table's text.
use Rattle.std.proofs.Common.{◌≡◌, ℕ, ◌≤◌, ◌<◌, ◌^◌, ◌&&◌, nat_le, true, false, List, [], codes, length, Option, Some, None, unwrap_or, Ok, refl, arith, IfSome}
use Rattle.std.specs.Fmt.{digits}
use Rattle.std.specs.List.{list_all}
use Rattle.std.proofs.lemmas.Bool.{and_from, le-leb}
use Rattle.serde_json.specs.Data.{Data, Members, unsigned, number, string, array, object, no_members, put}
use Rattle.serde_json.specs.Read.{of_json, number_of}
use Rattle.serde_json.proofs.Numbers.{number_of-decimal}
use Rattle.league.specs.Checks.{checked}
use Rattle.league.specs.Labels.{label_data}
use Rattle.league_json.specs.LabelMembers.{labels_of}
use Rattle.league.specs.League.{league_data}
use Rattle.league_json.specs.League.{league_of_data}
use Rattle.league.specs.Names.{is_team_name}
use Rattle.league.specs.Limits.{default_at_most, default_hard_weight, max_rounds, max_weight}
use Rattle.league.specs.declared.origins.Start.TheVariants.{Berger}
use Rattle.league.specs.Origins.{origin_at}
use Rattle.league_csv.specs.League.{AreSettings}
use Rattle.league_csv.proofs.Lexed.{RowsAreSmall}
use Rattle.league_csv.proofs.ReadBack.{whole}
use Rattle.league_csv.proofs.Values.{name_data, row_data, names_are, rows_are, names_read, rows_read}

-- members that may be absent
abbrev with_title : Option (List ℕ) → Members → Members
with_title None found = found
with_title (Some title) found = put (codes "name") (string title) found

abbrev with_term : List ℕ → Option ℕ → Members → Members
with_term name None found = found
with_term name (Some n) found = put name (number (unsigned n)) found

abbrev pub league_value : List (List ℕ) → List (List ℕ) → Option (List ℕ) → Option ℕ → Option ℕ → Data
league_value names distances title at_most hard_weight =
    object (with_term (codes "hard_weight") hard_weight (with_term (codes "at_most") at_most
    (put (codes "distances") (array (row_data distances)) (put (codes "teams") (array (name_data names))
    (with_title title (put (codes "format") (number (unsigned 3)) no_members))))))

three_is : number_of (codes "3") ≡ Some (unsigned 3)
unfolding digits
three_is = number_of-decimal 3 (omega arith)

module _ (names distances : List (List ℕ)) where
  pub value_is : (title : Option (List ℕ)) (at_most hard_weight : Option ℕ) → RowsAreSmall distances → IfSome at_most (λ n. n < 2 ^ 64)
      → IfSome hard_weight (λ n. n < 2 ^ 64)
      → of_json (whole names distances (record { title = title; at_most = at_most; hard_weight = hard_weight }))
      ≡ Some (league_value names distances title at_most hard_weight)
  value_is None None None small a h = rw (three_is, names_are names, rows_are distances small) refl
  value_is None (Some n) None small a h = rw (three_is, names_are names, rows_are distances small, number_of-decimal n a) refl
  value_is None None (Some w) small a h = rw (three_is, names_are names, rows_are distances small, number_of-decimal w h) refl
  value_is None (Some n) (Some w) small a h = rw (three_is, names_are names, rows_are distances small, number_of-decimal n a, number_of-decimal w h) refl
  value_is (Some title) None None small a h = rw (three_is, names_are names, rows_are distances small) refl
  value_is (Some title) (Some n) None small a h = rw (three_is, names_are names, rows_are distances small, number_of-decimal n a) refl
  value_is (Some title) None (Some w) small a h = rw (three_is, names_are names, rows_are distances small, number_of-decimal w h) refl
  value_is (Some title) (Some n) (Some w) small a h = rw (three_is, names_are names, rows_are distances small, number_of-decimal n a, number_of-decimal w h) refl

  within : (n most : ℕ) → 1 ≤ n → n ≤ most → (nat_le 1 n && nat_le n most) ≡ true
  within n most least limit = and_from (nat_le 1 n) (nat_le n most) (le-leb 1 n least) (le-leb n most limit)

  pub league_is : (title : Option (List ℕ)) (at_most hard_weight : Option ℕ)
      → AreSettings (record { title = title; at_most = at_most; hard_weight = hard_weight })
      → list_all is_team_name names ≡ true → checked (length names) distances 0 ≡ Ok tt
      → league_of_data (league_value names distances title at_most hard_weight)
      ≡ Ok (league_data names distances (unwrap_or at_most default_at_most) (unwrap_or hard_weight default_hard_weight) [] (origin_at Berger) false false (label_data title [] []))
  unfolding league_of_data labels_of
  league_is None None None settings named sound =
      rw (names_read names named, rows_read distances, sound) refl
  league_is None (Some n) None settings named sound =
      rw (names_read names named, rows_read distances, sound, within n max_rounds settings.at_most.0 settings.at_most.1) refl
  league_is None None (Some w) settings named sound =
      rw (names_read names named, rows_read distances, sound, within w max_weight settings.hard_weight.0 settings.hard_weight.1) refl
  league_is None (Some n) (Some w) settings named sound =
      rw (names_read names named, rows_read distances, sound, within n max_rounds settings.at_most.0 settings.at_most.1, within w max_weight settings.hard_weight.0 settings.hard_weight.1) refl
  league_is (Some title) None None settings named sound =
      rw (names_read names named, rows_read distances, sound, settings.title) refl
  league_is (Some title) (Some n) None settings named sound =
      rw (names_read names named, rows_read distances, sound, settings.title, within n max_rounds settings.at_most.0 settings.at_most.1) refl
  league_is (Some title) None (Some w) settings named sound =
      rw (names_read names named, rows_read distances, sound, settings.title, within w max_weight settings.hard_weight.0 settings.hard_weight.1) refl
  league_is (Some title) (Some n) (Some w) settings named sound =
      rw (names_read names named, rows_read distances, sound, settings.title, within n max_rounds settings.at_most.0 settings.at_most.1, within w max_weight settings.hard_weight.0 settings.hard_weight.1) refl
