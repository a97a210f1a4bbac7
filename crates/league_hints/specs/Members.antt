-- Which member of a league is wrong, and what is wanted.
use Rattle.std.specs.Prelude.{ℕ, ◌+◌, not, Option, option_and_then}
use Rattle.serde_json.specs.Data.{Data}
use Rattle.serde_json.specs.Find.{at}
use Rattle.league.specs.declared.fault.Field.{Field}
use Rattle.league.specs.declared.fault.Field.TheVariants.{Whole, Format, Teams, Distances, AtMost, HardWeight, Rules, Start, Phased}
use Rattle.league.specs.declared.fault.Field.TheVariants.{Name, Short, Repeats}
use Rattle.league.specs.declared.fault.Field.TheVariants as field
use Rattle.league_json.specs.Json.{is_object, only_if}
use Rattle.league_json.specs.Formats.{max_format}
use Rattle.league.specs.Limits.{max_rounds, max_weight}
use Rattle.league.specs.Messages.{member_name}
use Rattle.league_hints.specs.declared.hint.Hint.{Hint}
use Rattle.league_hints.specs.declared.hint.Hint.TheVariants.{Value}
use Rattle.league_hints.specs.declared.place.Place.TheVariants as place
use Rattle.league_hints.specs.declared.hint.Seen.TheVariants as seen
use Rattle.league_hints.specs.declared.wanted.Wanted.{Wanted}
use Rattle.league_hints.specs.declared.wanted.Wanted.TheVariants as wanted
use Rattle.league_hints.specs.Firsts.{item_count, first_below}
use Rattle.league_forms.specs.Forms.{form_of}
use Rattle.league_hints.specs.Seen.{seen_of}

-- what a member has to be
abbrev pub wanted_in : Field → Wanted
wanted_in Whole = wanted.Object
wanted_in Format = wanted.Number 1 max_format
wanted_in Teams = wanted.Names
wanted_in Distances = wanted.Table
wanted_in AtMost = wanted.Number 1 max_rounds
wanted_in HardWeight = wanted.Number 1 max_weight
wanted_in Rules = wanted.Objects
wanted_in Start = wanted.Order
wanted_in Phased = wanted.Truth
wanted_in Name = wanted.Title
wanted_in Short = wanted.ShortNames
wanted_in field.Rounds = wanted.RoundTexts
wanted_in Repeats = wanted.Repeats

-- the member as a whole is wrong, or absent
abbrev pub field_hint : Field → Data → Hint
field_hint field d = Value (place.League field) (seen_of (member_name field) (wanted_in field) d) (wanted_in field)

-- the text as a whole is wrong
abbrev pub whole_hint : Data → Hint
whole_hint d = Value place.Whole (seen.Value (form_of d)) wanted.Object

-- an item that is no rule at all, among the rules numbered from 0
abbrev pub no_rule : ℕ → Data → Option Hint
no_rule i d = only_if (not (is_object d)) (Value (place.Rule (i + 1)) (seen.Value (form_of d)) wanted.Object)

abbrev pub no_rule_at : Data → ℕ → Option Hint
no_rule_at rules i = option_and_then (no_rule i) (at i rules)

-- the first of them
abbrev pub rules_hint : Data → Option Hint
rules_hint rules = first_below (item_count rules) (no_rule_at rules)
