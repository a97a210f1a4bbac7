-- What a hint says.
use Rattle.std.specs.Prelude.{ℕ, List, [], ◌∷◌, ◌++◌, codes, decimal, Bool, if◌then◌else◌, Float, Option, None}
use Rattle.std.specs.List.{concat}
use Rattle.league.specs.Messages.{member_name}
use Rattle.league_hints.specs.declared.hint.Hint.{Hint}
use Rattle.league_hints.specs.declared.hint.Hint.TheVariants as hint
use Rattle.league_hints.specs.declared.place.Place.{Place}
use Rattle.league_hints.specs.declared.place.Place.TheVariants as place
use Rattle.league_hints.specs.declared.place.RuleMember.{RuleMember}
use Rattle.league_hints.specs.declared.place.RuleMember.TheVariants as member
use Rattle.league_hints.specs.declared.hint.Seen.{Seen}
use Rattle.league_hints.specs.declared.hint.Seen.TheVariants as seen
use Rattle.league_hints.specs.declared.wanted.Wanted.{Wanted}
use Rattle.league_hints.specs.declared.wanted.Wanted.TheVariants as wanted
use Rattle.league_forms.specs.Forms.{float_of, form_words, quote_words}
use Rattle.league_forms.specs.declared.form.Quote.{Quote}

abbrev pub rule_member_name : RuleMember → List ℕ
rule_member_name member.Class = codes "class"
rule_member_name member.Kind = codes "kind"
rule_member_name member.Weight = codes "weight"
rule_member_name member.Teams = codes "teams"
rule_member_name member.Teams1 = codes "teams1"
rule_member_name member.Teams2 = codes "teams2"
rule_member_name member.Slots = codes "slots"
rule_member_name member.Mode = codes "mode"
rule_member_name member.Mode2 = codes "mode2"
rule_member_name member.Max = codes "max"
rule_member_name member.Min = codes "min"
rule_member_name member.Intp = codes "intp"
rule_member_name member.Games = codes "games"

abbrev pub place_words : Place → List ℕ
place_words place.Whole = codes "the text: it"
place_words (place.League field) = codes "the league: member \"" ++ member_name field ++ codes "\""
place_words (place.Rule rule) = codes "rule " ++ decimal rule ++ codes ": it"
place_words (place.Team team) = codes "teams: number " ++ decimal team
place_words (place.Row row) = codes "distances: row " ++ decimal row
place_words (place.Distance row column) = codes "distances: row " ++ decimal row ++ codes ", column " ++ decimal column
place_words (place.Member rule member) =
    concat (codes "rule " ∷ decimal rule ∷ codes ": member \"" ∷ rule_member_name member ∷ codes "\"" ∷ [])

-- a number that is seen and is no whole number of 64 bits
abbrev pub float_seen : Seen → Option Float
float_seen (seen.Value form) = float_of form
float_seen (seen.Item form) = float_of form
float_seen seen = None

-- what is seen, by this numeral if it is such a number
abbrev pub seen_words : List ℕ → Seen → List ℕ
seen_words numeral seen.Absent = codes "is absent"
seen_words numeral (seen.Value form) = codes "is " ++ form_words numeral form
seen_words numeral (seen.Item form) = codes "has " ++ form_words numeral form
seen_words numeral (seen.Length length) = codes "has length " ++ decimal length
seen_words numeral (seen.Bytes quote bytes) = quote_words quote ++ codes " has " ++ decimal bytes ++ codes " bytes"
seen_words numeral (seen.ControlByte quote) = quote_words quote ++ codes " has a control byte"

-- an array of these, numbered from 1 to so many
abbrev pub list_words : List ℕ → ℕ → List ℕ
list_words items most = concat (codes "an array of " ∷ items ∷ codes " from 1 to " ∷ decimal most ∷ [])

abbrev pub wanted_words : Wanted → List ℕ
wanted_words wanted.Object = codes "an object"
wanted_words wanted.Objects = codes "an array of objects"
wanted_words wanted.Name = codes "a string of 1 to 40 bytes without control bytes"
wanted_words wanted.Names = codes "an array of strings"
wanted_words wanted.Numbers = codes "an array of numbers"
wanted_words wanted.Table = codes "an array of arrays of numbers"
wanted_words wanted.Order = codes "\"plain\" or \"fide\""
wanted_words wanted.Truth = codes "true or false"
wanted_words (wanted.Exactly number) = decimal number
wanted_words (wanted.Number least most) = codes "a whole number from " ++ decimal least ++ codes " to " ++ decimal most
wanted_words wanted.FromMin = codes "a number not below \"min\""
wanted_words wanted.Class = codes "CA1, CA2, CA3, CA4, GA1, BR1, BR2, SE1 or, in format 2, FA2"
wanted_words wanted.Kind = codes "\"hard\" or \"soft\""
wanted_words wanted.HomeOrAway = codes "\"H\" or \"A\""
wanted_words wanted.Side = codes "\"H\", \"A\" or \"HA\""
wanted_words wanted.SlotChoice = codes "\"EVERY\" or \"GLOBAL\""
wanted_words (wanted.Teams teams) = list_words (codes "team numbers") teams
wanted_words (wanted.Rounds rounds) = list_words (codes "round numbers") rounds
wanted_words (wanted.Listed teams) = list_words (codes "team names, or numbers") teams
wanted_words (wanted.ListedGames teams) = list_words (codes "pairs of distinct teams, by name or by number") teams
wanted_words wanted.Title = codes "a string of 1 to 80 bytes without control bytes"
wanted_words wanted.ShortNames = codes "an array of a string of 1 to 6 bytes for each team"
wanted_words wanted.RoundTexts = codes "an array of a string of 1 to 20 bytes for each round"
wanted_words wanted.Repeats = codes "\"forbidden\" or \"free\""
wanted_words (wanted.Games teams) = list_words (codes "pairs of distinct team numbers") teams

-- the whole line

-- a line has this fault
abbrev pub fault_line : ℕ → List ℕ → List ℕ
fault_line line fault = concat (codes "see line " ∷ decimal line ∷ codes ": " ∷ fault ∷ [])

-- there are so many of them, where others are wanted
abbrev pub count_line : List ℕ → ℕ → List ℕ → List ℕ
count_line counted count wanted =
    concat (codes "see " ∷ counted ∷ codes ": " ∷ decimal count ∷ codes " of them, " ∷ wanted ∷ codes " wanted" ∷ [])

abbrev pub way_words : ℕ → ℕ → ℕ → List ℕ
way_words from to distance = decimal from ++ codes " to " ++ decimal to ++ codes " is " ++ decimal distance

abbrev pub distances_line : ℕ → ℕ → ℕ → ℕ → List ℕ
distances_line from to there back = codes "see distances: " ++ way_words from to there ++ codes ", " ++ way_words to from back

-- how many teams have a name that is no one team's
abbrev pub bearer_words : Bool → List ℕ
bearer_words is_shared = if is_shared then codes ", several teams are called so" else codes ", no team is called so"

abbrev pub name_line : Place → Quote → Bool → List ℕ
name_line place name is_shared =
    concat (codes "see " ∷ place_words place ∷ codes " names " ∷ quote_words name ∷ bearer_words is_shared ∷ [])

-- what is seen at a place, and what is wanted there
abbrev pub value_line : List ℕ → Place → Seen → Wanted → List ℕ
value_line numeral place seen wanted =
    concat (codes "see " ∷ place_words place ∷ codes " " ∷ seen_words numeral seen ∷ codes ", " ∷ wanted_words wanted ∷ codes " is wanted" ∷ [])

-- a number that the hint shows and that is no whole number of 64 bits
abbrev pub hint_float : Hint → Option Float
hint_float (hint.Value place seen wanted) = float_seen seen
hint_float hint = None

-- the line without its end, with this numeral for such a number
abbrev pub hint_line : List ℕ → Hint → List ℕ
hint_line numeral (hint.Text line column) = codes "see line " ++ decimal line ++ codes ", column " ++ decimal column
hint_line numeral hint.Blank = codes "see the text: it is empty"
hint_line numeral (hint.NotUtf8 line) = fault_line line (codes "it is no UTF-8")
hint_line numeral hint.ByteOrderMark = codes "see line 1: it begins with a byte order mark"
hint_line numeral (hint.ScriptBehind line) = fault_line line (codes "\"script\" has to stand on a line of its own")
hint_line numeral (hint.SheetBehind line) = fault_line line (codes "\"sheet\" has to stand on a line of its own")
hint_line numeral (hint.TeamCount teams) = count_line (codes "teams") teams (codes "an even number from 4 to 40 is")
hint_line numeral (hint.Rows rows teams) = codes "see distances: " ++ decimal rows ++ codes " rows for " ++ decimal teams ++ codes " teams"
hint_line numeral (hint.TwoDistances from to there back) = distances_line from to there back
hint_line numeral (hint.RuleCount rules) = count_line (codes "rules") rules (codes "at most 256 are")
hint_line numeral (hint.SecondFormat rule) = codes "see rule " ++ decimal rule ++ codes ": class FA2 needs \"format\": 2"
hint_line numeral (hint.Name rule member name is_shared) = name_line (place.Member rule member) name is_shared
hint_line numeral (hint.Value place seen wanted) = value_line numeral place seen wanted
