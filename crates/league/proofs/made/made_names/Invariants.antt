use Rattle.std.proofs.Common.{◌≡◌}
use Rattle.league.specs.Made.{made_names}
use Rattle.league.specs.Views.{texts}
use Rattle.league.proofs.made.made_names.Given as goal

abbrev pub invariant-loop-team : goal.invariant-loop-team
invariant-loop-team l = texts l.names.items ≡ made_names l.team
