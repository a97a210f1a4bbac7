-- Where a league's text has a fault, and what is wanted there.
use Rattle.std.specs.Prelude.{◌≡◌, ℕ, ◌+◌, ◌&&◌, ◌||◌, ◌==◌, List, [], ◌∷◌, codes, take, Bool, not, nat_le, Option, Some, None}
use Rattle.std.specs.Prelude.{option_map, option_and_then, if◌then◌else◌}
use Rattle.std.specs.List.{count_by, list_all, starts_with}
use Rattle.std.specs.Option.{unwrap_or}
use Rattle.std.specs.Str.{is_utf8}
use Rattle.std.specs.Str.Lossy.{utf8_valid_len}
use Rattle.serde_json.specs.Data.{Data}
use Rattle.serde_json.specs.Find.{get, at}
use Rattle.league.specs.declared.fault.Field.{Field}
use Rattle.league.specs.declared.fault.Field.TheVariants.{Whole, Teams, Distances, Rules}
use Rattle.league.specs.declared.fault.LeagueFault.{LeagueFault}
use Rattle.league.specs.declared.fault.LeagueFault.TheVariants.{MissingField, WrongKind, TeamCount, DistanceShape, DistanceRange}
use Rattle.league.specs.declared.fault.LeagueFault.TheVariants.{Diagonal, Asymmetric, TooManyRules, RuleClass, RuleValue}
use Rattle.league_json.specs.Json.{json_of, only_if}
use Rattle.league.specs.Limits.{max_teams}
use Rattle.league_hints.specs.declared.hint.Hint.{Hint}
use Rattle.league_hints.specs.declared.hint.Hint.TheVariants as hint
use Rattle.league_hints.specs.Distances.{distances_hint}
use Rattle.league_hints.specs.Firsts.{item_count}
use Rattle.league_hints.specs.Members.{field_hint, rules_hint, whole_hint}
use Rattle.league_json.specs.Rosters.{RosterData, roster_data}
use Rattle.league_hints.specs.Rosters.{names_in}
use Rattle.league_hints.specs.Rules.{class_hint, rule_hint}
use Rattle.league_hints.specs.Teams.{teams_hint}

-- how many teams there are
abbrev pub team_count : Data → Option ℕ
team_count d = option_map item_count (get (codes "teams") d)

-- the rule at an index
abbrev pub rule_at : ℕ → Data → Option Data
rule_at i d = option_and_then (at i) (get (codes "rules") d)

abbrev pub table_hint_of : LeagueFault → Data → Option Hint
table_hint_of fault d =
    option_and_then (λ n. option_and_then (distances_hint fault n) (get (codes "distances") d)) (team_count d)

-- a number of teams that a league may have, but for 0 at most
abbrev pub within_most : ℕ → Option ℕ
within_most n = only_if (nat_le 1 n && nat_le n max_teams) n

-- the teams that rules can list
abbrev pub roster_in : Data → Option RosterData
roster_in d = option_map (λ n. roster_data n (names_in d)) (option_and_then within_most (team_count d))

abbrev pub rule_hint_of : ℕ → Data → Option Hint
rule_hint_of i d = option_and_then (λ rule. option_and_then (λ roster. rule_hint i roster rule) (roster_in d)) (rule_at i d)

-- how many rules there are
abbrev pub rule_count : Data → Option ℕ
rule_count d = option_map item_count (get (codes "rules") d)

-- what is wrong within a member, if that is an array
abbrev pub part_hint : Field → Data → Option Hint
part_hint Teams d = option_and_then teams_hint (get (codes "teams") d)
part_hint Distances d = table_hint_of (WrongKind Distances) d
part_hint Rules d = option_and_then rules_hint (get (codes "rules") d)
part_hint field d = None

-- the text, a member or a part of it isn't of its form
abbrev pub kind_hint : Field → Data → Hint
kind_hint Whole d = whole_hint d
kind_hint field d = unwrap_or (part_hint field d) (field_hint field d)

abbrev pub hint_of : LeagueFault → Data → Option Hint
hint_of (MissingField field) d = Some (field_hint field d)
hint_of (WrongKind field) d = Some (kind_hint field d)
hint_of TeamCount d = option_map hint.TeamCount (team_count d)
hint_of DistanceShape d = table_hint_of DistanceShape d
hint_of DistanceRange d = table_hint_of DistanceRange d
hint_of Diagonal d = table_hint_of Diagonal d
hint_of Asymmetric d = table_hint_of Asymmetric d
hint_of TooManyRules d = option_map hint.RuleCount (rule_count d)
hint_of (RuleClass i) d = option_map (class_hint i) (rule_at i d)
hint_of (RuleValue i) d = rule_hint_of i d
hint_of fault d = None

-- nothing but spaces and line ends
abbrev pub is_blank : List ℕ → Bool
is_blank bytes = list_all (λ b. (b == 32) || ((b == 9) || ((b == 10) || (b == 13)))) bytes

-- the line of the first byte that isn't UTF-8
abbrev pub line_past_utf8 : List ℕ → ℕ
line_past_utf8 bytes = 1 + count_by (λ b. b == 10) (take (utf8_valid_len bytes) bytes)

-- the bytes begin with a byte order mark
abbrev pub has_mark : List ℕ → Bool
has_mark bytes = starts_with (λ a b. a == b) bytes (239 ∷ 187 ∷ 191 ∷ [])

-- where bytes that are no JSON stop being so
abbrev pub place : List ℕ → ℕ → ℕ → Hint
place bytes line column =
    if is_blank bytes then hint.Blank else
    (if not (is_utf8 bytes) then hint.NotUtf8 (line_past_utf8 bytes) else
    (if has_mark bytes then hint.ByteOrderMark else hint.Text line column))

-- the bytes are no JSON, and the hint is why or some line and column: `serde_json` tells which, and no clause of it says
abbrev pub IsNoJson : List ℕ → Hint → Type 0
IsNoJson bytes hint = (json_of bytes ≡ None) × (line column : ℕ) × (hint ≡ place bytes line column)

abbrev pub IsHintOn : List ℕ → Option Data → LeagueFault → Option Hint → Type 0
IsHintOn bytes (Some d) fault hint = hint ≡ hint_of fault d
IsHintOn bytes None fault None = ⊥
IsHintOn bytes None fault (Some hint) = IsNoJson bytes hint

-- the hint on a text with this fault
abbrev pub IsHint : List ℕ → LeagueFault → Option Hint → Type 0
IsHint bytes fault hint = IsHintOn bytes (json_of bytes) fault hint
