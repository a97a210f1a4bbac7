-- No team so far is wrong.
use Rattle.std.proofs.Common.{◌≡◌, None}
use Rattle.serde_json.specs.View.{view}
use Rattle.league_hints.specs.Firsts.{first_below}
use Rattle.league_hints.specs.Teams.{team_hint}
use Rattle.league_hints.proofs.teams.teams_hint.Given as goal

abbrev pub invariant-loop-team : goal.invariant-loop-team
invariant-loop-team l = first_below l.team (team_hint (view l.teams)) ≡ None
