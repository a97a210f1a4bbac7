use Rattle.std.proofs.Common.{◌-◌, ◌^◌}
use Rattle.league.specs.Limits.{max_teams}
use Rattle.league.specs.Sets.{has, IsBelow}
use Rattle.moves.proofs.ejection.Added.{with_added}
use Rattle.moves.proofs.ejection.EjectedTeams.{IsEjectedTeams}
use Rattle.moves.proofs.ejection_chains.moved_teams.Given as goal

abbrev pub invariant-loop-team : goal.invariant-loop-team
invariant-loop-team l = record {
  ejected : IsEjectedTeams l.schedule l.k l.l l.i l.team (with_added l.team (has l.found));
  below : IsBelow max_teams l.found;
}

abbrev pub decreases-loop-team : goal.decreases-loop-team
decreases-loop-team l = 2 ^ max_teams - l.found
