-- What private functions alone need beside specs/League.antt.
use Rattle.std.specs.Prelude.{[], false}
use Rattle.league.specs.declared.origins.Start.TheVariants.{Berger}
use Rattle.league.specs.Origins.{OriginData, origin_at}
use Rattle.league.specs.Labels.{no_labels}
use Rattle.league.specs.League.{LeagueData, league_data}

-- a league of nobody, where none is asked for
abbrev pub no_league : LeagueData
no_league = league_data [] [] 0 0 [] (origin_at Berger) false false no_labels

-- the same league with another origin
abbrev pub with_origin : OriginData → LeagueData → LeagueData
with_origin origin l = record l { origin = origin }

-- the same league at the Berger table, with no labels
abbrev pub bare : LeagueData → LeagueData
bare l = with_origin (origin_at Berger) (record l { labels = no_labels })
