-- The members of a league's text, in the order of their checks.
use Rattle.std.specs.Prelude.{ℕ, List, codes, Bool, true, false, nat_le, Option, Some, None}
use Rattle.std.specs.Prelude.{option_and_then, if◌then◌else◌, Result, Ok}
use Rattle.std.specs.Str.{bytes_eq}
use Rattle.serde_json.specs.Data.{Data, Items, no_items}
use Rattle.serde_json.specs.Find.{get, as_str, as_bool}
use Rattle.league.specs.declared.fault.Field.{Field}
use Rattle.league.specs.declared.fault.Field.TheVariants as field
use Rattle.league.specs.declared.fault.Field.TheVariants.{Format, Teams, Distances, AtMost, HardWeight, Rules, Phased}
use Rattle.league.specs.declared.fault.Field.TheVariants.{Repeats}
use Rattle.league.specs.declared.fault.LeagueFault.{LeagueFault}
use Rattle.league.specs.declared.origins.Start.{Start}
use Rattle.league.specs.declared.origins.Start.TheVariants.{Berger, Fide}
use Rattle.league_json.specs.Json.{only_if, whole_number, number_within, array_of, objects}
use Rattle.league.specs.Limits.{max_name, max_rounds, max_weight, default_at_most, default_hard_weight}
use Rattle.league.specs.Names.{is_text_within}
use Rattle.league_json.specs.Formats.{max_format}
use Rattle.league_json.specs.Members.{needed, optional}

abbrev pub text_within : ℕ → Data → Option (List ℕ)
text_within most d = option_and_then (λ text. only_if (is_text_within most text) text) (as_str d)

abbrev pub texts_within : ℕ → Data → Option (List (List ℕ))
texts_within most = array_of (text_within most)

abbrev pub team_names : Data → Option (List (List ℕ))
team_names = texts_within max_name

abbrev pub distance_row : Data → Option (List ℕ)
distance_row = array_of whole_number

abbrev pub distance_rows : Data → Option (List (List ℕ))
distance_rows = array_of distance_row

abbrev pub format_of : Data → Result ℕ LeagueFault
format_of d = needed Format (number_within 1 max_format) (get (codes "format") d)

abbrev pub teams_of : Data → Result (List (List ℕ)) LeagueFault
teams_of d = needed Teams team_names (get (codes "teams") d)

abbrev pub distances_of : Data → Result (List (List ℕ)) LeagueFault
distances_of d = needed Distances distance_rows (get (codes "distances") d)

abbrev pub at_most_of : Data → Result ℕ LeagueFault
at_most_of d = optional AtMost (number_within 1 max_rounds) default_at_most (get (codes "at_most") d)

abbrev pub hard_weight_of : Data → Result ℕ LeagueFault
hard_weight_of d = optional HardWeight (number_within 1 max_weight) default_hard_weight (get (codes "hard_weight") d)

abbrev pub rules_of : Data → Result Items LeagueFault
rules_of d = optional Rules objects no_items (get (codes "rules") d)

-- a member that may be absent, and that formats before the first to have it ignore
abbrev pub since : {A : Type 0} → ℕ → ℕ → Field → (Data → Option A) → A → Option Data → Result A LeagueFault
since first format field form default member = if nat_le first format then optional field form default member else Ok default

-- the Berger table, in the order of this name
abbrev pub order_named : List ℕ → Option Start
order_named name =
    if bytes_eq name (codes "plain") then Some Berger else
    (if bytes_eq name (codes "fide") then Some Fide else None)

abbrev pub start_order : Data → Option Start
start_order d = option_and_then order_named (as_str d)

abbrev pub order_of : ℕ → Data → Result Start LeagueFault
order_of format d = since 2 format field.Start start_order Berger (get (codes "start") d)

abbrev pub phased_of : ℕ → Data → Result Bool LeagueFault
phased_of format d = since 2 format Phased as_bool false (get (codes "phased") d)

-- whether repeats are free
abbrev pub are_free : List ℕ → Option Bool
are_free word =
    if bytes_eq word (codes "free") then Some true else
    (if bytes_eq word (codes "forbidden") then Some false else None)

abbrev pub free_repeats_of : ℕ → Data → Result Bool LeagueFault
free_repeats_of format d =
    since 3 format Repeats (λ word. option_and_then are_free (as_str word)) false (get (codes "repeats") d)
