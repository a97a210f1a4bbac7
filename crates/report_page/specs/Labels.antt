-- What a league calls itself, its teams in short, and its rounds, in reports.
use Rattle.std.specs.Prelude.{ℕ, ◌==◌, Bool, not, List, [], length, slice_get}
use Rattle.std.specs.Option.{is_some, unwrap_or}
use Rattle.league.specs.League.{LeagueData}

abbrev pub has_title : LeagueData → Bool
has_title l = is_some l.labels.title

-- what the league is called, or nothing
abbrev pub title_of : LeagueData → List ℕ
title_of l = unwrap_or l.labels.title []

-- whether the league has a short name for each team
abbrev pub has_short_names : LeagueData → Bool
has_short_names l = not (length l.labels.short_names == 0)

-- what a team is called in short, or nothing
abbrev pub short_name_of : LeagueData → ℕ → List ℕ
short_name_of l team = unwrap_or (slice_get l.labels.short_names team) []

-- whether the league has a text for each round
abbrev pub has_round_texts : LeagueData → Bool
has_round_texts l = not (length l.labels.round_texts == 0)

-- what a round is called, or nothing
abbrev pub round_text_of : LeagueData → ℕ → List ℕ
round_text_of l round = unwrap_or (slice_get l.labels.round_texts round) []
