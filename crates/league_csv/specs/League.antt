-- The league that a table gives.
use Rattle.std.specs.Prelude.{◌≡◌, ℕ, ◌+◌, ◌≤◌, List, [], ◌∷◌, length, false, unwrap_or, Option, Some, None, IfSome, IsTrue, Result, Ok, Err, if◌then◌else◌, ⊤}
use Rattle.league.specs.Labels.{is_title, label_data}
use Rattle.league.specs.League.{LeagueData, league_data}
use Rattle.league_json.specs.League.{league_of}
use Rattle.league.specs.Limits.{default_at_most, default_hard_weight, max_rounds, max_weight}
use Rattle.league.specs.declared.origins.Start.TheVariants.{Berger}
use Rattle.league.specs.Origins.{origin_at}
use Rattle.league_csv.specs.declared.fault.Asymmetry.{Asymmetry}
use Rattle.league_csv.specs.declared.fault.DistanceFault.{DistanceFault}
use Rattle.league_csv.specs.declared.fault.DistanceFault.TheVariants.{Asymmetric, Memory}
use Rattle.league_csv.specs.declared.measures.Measure.{Measure}
use Rattle.choices.specs.declared.symmetry.Symmetry.{Symmetry}
use Rattle.league_csv.specs.declared.table.MadeLeague.{MadeLeague}
use Rattle.league_csv.specs.LeagueText.{Said, league_text}
use Rattle.league_csv.specs.Reading.{◌>>=◌}
use Rattle.league_csv.specs.Sides.{first_asymmetry, leveled}
use Rattle.league_csv.specs.Table.{TableData, table_of}

-- what a league may say
pub record AreSettings (said : Said) : Type 0 where
  pub title : IsTrue (is_title said.title)
  pub at_most : IfSome said.at_most (λ n. (1 ≤ n) × (n ≤ max_rounds))
  pub hard_weight : IfSome said.hard_weight (λ w. (1 ≤ w) × (w ≤ max_weight))

-- how many distances were rounded
abbrev pub rounded_in_row : List Measure → ℕ
rounded_in_row [] = 0
rounded_in_row (m ∷ ms) = (if m.is_rounded then 1 else 0) + rounded_in_row ms

abbrev pub rounded_in : List (List Measure) → ℕ
rounded_in [] = 0
rounded_in (row ∷ rows) = rounded_in_row row + rounded_in rows

abbrev pub unless_pair : Option Asymmetry → Result ⊤ DistanceFault
unless_pair None = Ok tt
unless_pair (Some pair) = Err (Asymmetric pair)

-- a fault if a pair is further apart one way, and it isn't chosen what to take for it
abbrev pub agreed : Option Symmetry → ℕ → List (List Measure) → Result ⊤ DistanceFault
agreed (Some choice) n rows = Ok tt
agreed None n rows = unless_pair (first_asymmetry n rows)

-- the table of a text that a league is made of, or the first fault
unfoldable pub table_for : Option Symmetry → List ℕ → Result TableData DistanceFault
table_for choice text = do
  table ← table_of text
  both ← agreed choice (length table.names) table.rows
  Ok table

abbrev pub distances_for : Option Symmetry → TableData → List (List ℕ)
distances_for choice table = leveled choice (length table.names) table.rows

abbrev pub league_for : Option Symmetry → Said → TableData → LeagueData
league_for choice said table =
    league_data table.names (distances_for choice table) (unwrap_or said.at_most default_at_most)
    (unwrap_or said.hard_weight default_hard_weight) [] (origin_at Berger) false false (label_data said.title [] [])

-- the text of a table's league, which is read as it, and how many distances were rounded
pub record IsLeagueOf (choice : Option Symmetry) (said : Said) (table : TableData) (text : List ℕ) (rounded : ℕ) : Type 0 where
  pub text_is : text ≡ league_text table.names (distances_for choice table) said
  pub reads : league_of text ≡ Ok (league_for choice said table)
  pub rounded_is : rounded ≡ rounded_in table.rows

-- what a call gives for a text, if memory is there
abbrev pub GivesLeague : Option Symmetry → Said → List ℕ → Result MadeLeague DistanceFault → Type 0
GivesLeague choice said text (Ok made) =
    (table : TableData) × (table_for choice text ≡ Ok table) × IsLeagueOf choice said table made.text.items made.rounded
GivesLeague choice said text (Err Memory) = Unit {0}
GivesLeague choice said text (Err fault) = table_for choice text ≡ Err fault
