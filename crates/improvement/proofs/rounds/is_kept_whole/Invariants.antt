use Rattle.std.proofs.Common.{◌≡◌, true}
use Rattle.improvement.specs.within.Rounds.{are_kept_below}
use Rattle.improvement.proofs.rounds.is_kept_whole.Given as goal

abbrev pub invariant-loop-team : goal.invariant-loop-team
invariant-loop-team l = are_kept_below l.league l.schedule l.round l.team ≡ true
