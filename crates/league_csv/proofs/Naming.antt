-- Which bytes are a name of a league.
use Rattle.std.proofs.Common.{◌≡◌, ℕ, List, true, false, Ok, Err, IsUtf8, refl, inl, inr}
use Rattle.std.proofs.lemmas.Bool.{cases_Bool}
use Rattle.std.proofs.lemmas.Str.{IsUtf8-from_is_utf8, is_utf8-from_IsUtf8}
use Rattle.std.specs.Str.{is_utf8}
use Rattle.league.specs.Names.{is_team_name}
use Rattle.league_csv.specs.declared.fault.DistanceCellFault.TheVariants.{NoName}
use Rattle.league_csv.specs.Names.{league_name}
use Rattle.league_csv.specs.Reading.{cell_fault, placed}

pub named : (line column : ℕ) (name : List ℕ) → is_team_name name ≡ true → IsUtf8 name → placed line column (league_name name) ≡ Ok name
named line column name passes utf8 = rw (passes, is_utf8-from_IsUtf8 name utf8) refl

pub unnamed : (line column : ℕ) (name : List ℕ) → ¬ IsUtf8 name
    → placed line column (league_name name) ≡ Err (cell_fault line column NoName)
unnamed line column name none = elim (cases_Bool (is_utf8 name)) [
  | inl utf8 ↦ absurd (none (IsUtf8-from_is_utf8 name utf8))
  | inr not_utf8 ↦ elim (cases_Bool (is_team_name name)) [
    | inl passes ↦ rw (not_utf8, passes) refl
    | inr fails ↦ rw fails refl
  ]
]
