-- The leagues that are made and not read.
use Rattle.std.specs.Prelude.{ℕ, ◌+◌, ◌-◌, ◌==◌, min, List, [], ◌++◌, false, map, codes, decimal, if◌then◌else◌, Result, Ok}
use Rattle.std.specs.List.{range_with_len}
use Rattle.std.specs.Int.{abs_diff}
use Rattle.league.specs.declared.fault.LeagueFault.{LeagueFault}
use Rattle.league.specs.declared.fault.LeagueFault.TheVariants.{TeamCount}
use Rattle.league.specs.declared.made.Layout.{Layout}
use Rattle.league.specs.declared.made.Layout.TheVariants.{Circular, Constant}
use Rattle.league.specs.declared.origins.Start.TheVariants.{Berger}
use Rattle.league.specs.Origins.{origin_at}
use Rattle.league.specs.Reading.{◌>>=◌, unless}
use Rattle.league.specs.Checks.{is_team_count}
use Rattle.league.specs.Limits.{default_at_most, default_hard_weight}
use Rattle.league.specs.Labels.{no_labels}
use Rattle.league.specs.League.{LeagueData, league_data}

-- T1 is the first
abbrev pub made_name : ℕ → List ℕ
made_name team = codes "T" ++ decimal (team + 1)

abbrev pub made_names : ℕ → List (List ℕ)
made_names n = map made_name (range_with_len 0 n)

-- how far apart two of n places lie: by the shorter way round a circle, or 1 from each other
unfoldable pub apart : Layout → ℕ → ℕ → ℕ → ℕ
apart Circular n a b = min (abs_diff a b) (n - abs_diff a b)
apart Constant n a b = if a == b then 0 else 1

abbrev pub made_row : Layout → ℕ → ℕ → List ℕ
made_row layout n a = map (apart layout n a) (range_with_len 0 n)

abbrev pub made_rows : Layout → ℕ → List (List ℕ)
made_rows layout n = map (made_row layout n) (range_with_len 0 n)

unfoldable pub made : Layout → ℕ → Result LeagueData LeagueFault
made layout n = do
  counted ← unless (is_team_count n) TeamCount
  Ok (league_data (made_names n) (made_rows layout n) default_at_most default_hard_weight [] (origin_at Berger) false false no_labels)

-- the league of n teams in a circle, or TeamCount
abbrev pub circular_of : ℕ → Result LeagueData LeagueFault
circular_of = made Circular

-- the league of n teams, each at distance 1 from each other, or TeamCount
abbrev pub constant_of : ℕ → Result LeagueData LeagueFault
constant_of = made Constant
