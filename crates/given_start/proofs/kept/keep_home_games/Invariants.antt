use Rattle.std.proofs.Common.{◌≡◌}
use Rattle.league.specs.League.{teams}
use Rattle.given_start.specs.Begun.{keeping_at}
use Rattle.given_start.proofs.kept.keep_home_games.Given as goal

abbrev pub invariant-loop-away : goal.invariant-loop-away
invariant-loop-away l = record {
  kept : l.league ≡ keeping_at l.rounds l.home l.away l.initial.league;
  same : teams l.league ≡ teams l.initial.league;
}
