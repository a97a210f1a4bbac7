-- The members of a league's text that name the league, its teams in short, and its rounds.
use Rattle.std.specs.Prelude.{ℕ, ◌==◌, List, [], codes, length, Option, Some, None, option_map, option_and_then, Result, Ok}
use Rattle.serde_json.specs.Data.{Data}
use Rattle.serde_json.specs.Find.{get}
use Rattle.league.specs.declared.fault.Field.TheVariants.{Name, Short, Rounds}
use Rattle.league.specs.declared.fault.LeagueFault.{LeagueFault}
use Rattle.league.specs.Labels.{LabelData, label_data}
use Rattle.league.specs.Limits.{max_title, max_short_name, max_round_text, round_count}
use Rattle.league.specs.Reading.{◌>>=◌}
use Rattle.league_json.specs.Json.{only_if}
use Rattle.league_json.specs.LeagueMembers.{text_within, texts_within, since}

-- so many texts
abbrev pub texts_for : ℕ → ℕ → Data → Option (List (List ℕ))
texts_for count most d = option_and_then (λ texts. only_if (length texts == count) texts) (texts_within most d)

-- the league's name, if it has one
abbrev pub title_of : ℕ → Data → Result (Option (List ℕ)) LeagueFault
title_of format d = since 3 format Name (λ name. option_map Some (text_within max_title name)) None (get (codes "name") d)

-- a short name for each of n teams, or none
abbrev pub short_names_of : ℕ → ℕ → Data → Result (List (List ℕ)) LeagueFault
short_names_of format n d = since 3 format Short (texts_for n max_short_name) [] (get (codes "short") d)

-- a text for each of so many rounds, or none
abbrev pub round_texts_of : ℕ → ℕ → Data → Result (List (List ℕ)) LeagueFault
round_texts_of format rounds d = since 3 format Rounds (texts_for rounds max_round_text) [] (get (codes "rounds") d)

-- the labels of a text of n teams
unfoldable pub labels_of : ℕ → ℕ → Data → Result LabelData LeagueFault
labels_of format n d = do
  title ← title_of format d
  short_names ← short_names_of format n d
  round_texts ← round_texts_of format (round_count n) d
  Ok (label_data title short_names round_texts)
