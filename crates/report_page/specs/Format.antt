-- The report in a format.
use Rattle.std.specs.Prelude.{◌≡◌, ℕ, List, ◌++◌, Option, Some, None, option_and_then, option_map}
use Rattle.std.specs.Option.{unwrap_or}
use Rattle.fixtures.specs.Games.{Games}
use Rattle.league.specs.League.{LeagueData}
use Rattle.report_text.specs.Report.{report_text}
use Rattle.report_json.specs.JsonReport.{json_text}
use Rattle.choices.specs.declared.format.Format.{Format}
use Rattle.report_page.specs.declared.format.Prepared.{Prepared}
use Rattle.choices.specs.declared.format.Format.TheVariants.{Text, Csv, Html, Names, Json}
use Rattle.report_page.specs.Page.{page_text}
use Rattle.report_page.specs.Pairings.{pairings_text}
use Rattle.report_page.specs.Table.{table_text}

-- what a format has in place of the text of a double round robin
abbrev pub prepared_of : Format → LeagueData → Games → Option (List ℕ)
prepared_of Text l g = None
prepared_of (Csv form) l g = Some (table_text form l g)
prepared_of Html l g = Some (page_text l g)
prepared_of Names l g = Some (pairings_text l g)
prepared_of Json l g = Some (json_text l g)

-- the report of the double round robin that the lines give, in the format, or else the text of their faults; behind a text
-- stand the remarks
abbrev pub report_in : Format → LeagueData → List (List ℕ) → Option Games → List ℕ → List ℕ
report_in format l lines games remarks =
    unwrap_or (option_and_then (prepared_of format l) games) (report_text l lines games ++ remarks)

-- this is what was prepared
pub record IsPrepared (format : Format) (l : LeagueData) (games : Option Games) (remarks : List ℕ) (p : Prepared) : Type 0 where
  pub whole_is : option_map (λ text. text.items) p.whole ≡ option_and_then (prepared_of format l) games
  pub remarks_are : p.remarks.items ≡ remarks

-- what was prepared, or the text and the remarks behind it
abbrev pub text_with : Prepared → List ℕ → List ℕ
text_with p text = unwrap_or (option_map (λ whole. whole.items) p.whole) (text ++ p.remarks.items)
