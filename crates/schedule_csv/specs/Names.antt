-- The team that a cell means.
use Rattle.std.specs.Prelude.{ℕ, zero, suc, ◌+◌, ◌==◌, ◌||◌, Bool, List, [], ◌∷◌, Option, Some, None, Result, Ok, Err, if◌then◌else◌}
use Rattle.std.specs.Str.{bytes_eq}
use Rattle.league.specs.League.{LeagueData, name_of, teams}
use Rattle.text_lines.specs.Number.{number_of}
use Rattle.schedule_csv.specs.declared.fault.CellFault.{CellFault}
use Rattle.schedule_csv.specs.declared.fault.CellFault.TheVariants.{NoTeam, TwoTeams}
use Rattle.schedule_csv.specs.declared.names.Named.{Named}
use Rattle.schedule_csv.specs.declared.names.Named.TheVariants.{Nobody, One, Several}
use Rattle.schedule_csv.specs.Cells.{is_mark, unmarked}

-- a name as it stands between quotation marks: each of its own is doubled
abbrev pub doubled : List ℕ → List ℕ
doubled [] = []
doubled (b ∷ bs) = if is_mark b then b ∷ b ∷ doubled bs else b ∷ doubled bs

-- without the apostrophe at its front that tells a spreadsheet that a cell is a text
abbrev pub unguarded : List ℕ → List ℕ
unguarded [] = []
unguarded (b ∷ bs) = if b == 39 then bs else b ∷ bs

-- whether a text between quotation marks is the name, or the name behind an apostrophe
unfoldable pub is_marked_name : List ℕ → List ℕ → Bool
is_marked_name name text = bytes_eq text (doubled name) || bytes_eq (unguarded text) (doubled name)

-- whether a cell is the name, or the name in quotation marks, behind an apostrophe or not
abbrev pub stands_for : List ℕ → List ℕ → Bool
stands_for name cell = bytes_eq cell name || is_marked_name name (unmarked cell)

-- with one team more
abbrev pub and_also : ℕ → Named → Named
and_also team Nobody = One team
and_also team (One other) = Several
and_also team Several = Several

-- those of the teams below m for whose names a cell stands
abbrev pub named_below : LeagueData → List ℕ → ℕ → Named
named_below l cell zero = Nobody
named_below l cell (suc m) =
    if stands_for (name_of l m) cell then and_also m (named_below l cell m) else named_below l cell m

-- the number from 1 of the one team
abbrev pub only_one : Named → Result ℕ CellFault
only_one Nobody = Err NoTeam
only_one (One team) = Ok (team + 1)
only_one Several = Err TwoTeams

abbrev pub numbered_or_named : Option ℕ → Named → Result ℕ CellFault
numbered_or_named (Some number) named = Ok number
numbered_or_named None named = only_one named

-- the number of the team that a cell means: a number as it is, or that of the one team with this name
abbrev pub team_of : LeagueData → List ℕ → Result ℕ CellFault
team_of l cell = numbered_or_named (number_of (unmarked cell)) (named_below l cell (teams l))
