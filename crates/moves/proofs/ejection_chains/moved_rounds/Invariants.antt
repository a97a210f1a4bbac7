use Rattle.std.proofs.Common.{◌≡◌, ◌-◌, ◌^◌, false}
use Rattle.league.specs.Limits.{max_rounds}
use Rattle.league.specs.Sets.{has, IsBelow}
use Rattle.moves.proofs.ejection.Added.{with_added}
use Rattle.moves.proofs.ejection.EjectedRounds.{IsEjectedRounds}
use Rattle.moves.proofs.ejection_chains.moved_rounds.Given as goal

abbrev pub invariant-loop-found : goal.invariant-loop-found
invariant-loop-found l = record {
  ejected : IsEjectedRounds l.schedule l.i l.j l.k l.round (with_added l.round (has l.found));
  fresh : has l.found l.round ≡ false;
  below : IsBelow max_rounds l.found;
}

abbrev pub decreases-loop-found : goal.decreases-loop-found
decreases-loop-found l = 2 ^ max_rounds - l.found
