-- What a league calls itself, its teams in short, and its rounds, as JSON.
use Rattle.std.specs.Prelude.{ℕ, List, [], ◌∷◌, slice_get, Option, Some, None}
use Rattle.serde_json.specs.Data.{Data, null, string}
use Rattle.league.specs.League.{LeagueData, teams}
use Rattle.league.specs.Limits.{round_count}
use Rattle.report_json.specs.Parts.{list, parts_below}

abbrev pub title_data : Option (List ℕ) → Data
title_data None = null
title_data (Some title) = string title

-- if there is one
abbrev pub text_at : Option (List ℕ) → List Data
text_at None = []
text_at (Some text) = string text ∷ []

abbrev pub short_name_at : LeagueData → ℕ → List Data
short_name_at l team = text_at (slice_get l.labels.short_names team)

abbrev pub short_names_data : LeagueData → Data
short_names_data l = list (parts_below (short_name_at l) (teams l))

abbrev pub round_text_at : LeagueData → ℕ → List Data
round_text_at l round = text_at (slice_get l.labels.round_texts round)

abbrev pub round_texts_data : LeagueData → Data
round_texts_data l = list (parts_below (round_text_at l) (round_count (teams l)))
