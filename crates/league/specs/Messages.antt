-- What is said of a member.
use Rattle.std.specs.Prelude.{ℕ, List, ◌++◌, codes}
use Rattle.league.specs.declared.fault.Field.{Field}
use Rattle.league.specs.declared.fault.Field.TheVariants.{Whole, Format, Teams, Distances, AtMost, HardWeight, Rules, Start, Phased}
use Rattle.league.specs.declared.fault.Field.TheVariants.{Name, Short, Rounds, Repeats}

-- the member's JSON name
abbrev pub member_name : Field → List ℕ
member_name Whole = codes "text"
member_name Format = codes "format"
member_name Teams = codes "teams"
member_name Distances = codes "distances"
member_name AtMost = codes "at_most"
member_name HardWeight = codes "hard_weight"
member_name Rules = codes "rules"
member_name Start = codes "start"
member_name Phased = codes "phased"
member_name Name = codes "name"
member_name Short = codes "short"
member_name Rounds = codes "rounds"
member_name Repeats = codes "repeats"

-- what is said if it is not of its form
abbrev pub wrong_kind_message : Field → List ℕ
wrong_kind_message Whole = codes "league is no object"
wrong_kind_message field = codes "league member " ++ member_name field ++ codes " is wrong"
