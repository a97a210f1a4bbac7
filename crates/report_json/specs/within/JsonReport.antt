-- What private functions alone need beside specs/JsonReport.antt.
use Rattle.std.specs.Prelude.{codes}
use Rattle.serde_json.specs.Data.{put as with_member, Members}
use Rattle.fixtures.specs.Games.{Games}
use Rattle.league.specs.League.{LeagueData}
use Rattle.costs.specs.Costs.{cost_of}
use Rattle.report_json.specs.JsonReport.{cost_data, league_data}
use Rattle.report_json.specs.Rounds.{rounds_data, tours_data}
use Rattle.report_json.specs.Rules.{rules_data}
use Rattle.report_json.specs.Sides.{halves_data, repeats_data, runs_data}

-- a report's members with the league, the games and what they cost
abbrev pub with_season : LeagueData → Games → Members → Members
with_season l g m =
    with_member (codes "tours") (tours_data l g) (with_member (codes "rounds") (rounds_data l g)
    (with_member (codes "league") (league_data l) (with_member (codes "cost") (cost_data l g (cost_of l g)) m)))

-- with what the cost is made of
abbrev pub with_parts : LeagueData → Games → Members → Members
with_parts l g m =
    with_member (codes "runs") (runs_data g l.at_most) (with_member (codes "rules") (rules_data l g)
    (with_member (codes "repeats") (repeats_data l g) (with_member (codes "halves") (halves_data l g) m)))
