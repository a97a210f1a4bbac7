use Rattle.std.proofs.Common.{◌≡◌}
use Rattle.league.specs.League.{teams}
use Rattle.given_start.specs.Begun.{keeping_below}
use Rattle.given_start.proofs.kept.keep_rounds.Given as goal

abbrev pub invariant-loop-home : goal.invariant-loop-home
invariant-loop-home l = record {
  kept : l.league ≡ keeping_below l.rounds l.home l.initial.league;
  same : teams l.league ≡ teams l.initial.league;
}
